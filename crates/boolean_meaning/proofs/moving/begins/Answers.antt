use Rattle.std.proofs.Common.{◌≡◌, ◌++◌, length, ap, ◌∙◌, arith}
use Rattle.boolean_machine.specs.Picks.{listed}
use Rattle.boolean_meaning.specs.Bits.{bit_of}
use Rattle.boolean_meaning.proofs.ValueLemmas.{length_listed}
use Rattle.boolean_meaning.proofs.moving.begins.Goals as goal

pub are_arguments-requires-clause-enough : goal.are_arguments-requires-clause-enough
are_arguments-requires-clause-enough c =
    let n = c.width.result in
    let l = c.args.top.locals in
    let names : length c.as_slice-then-same_frames-2.result.now ≡ n =
    ap (λ bs. length bs) (c.as_slice-then-same_frames-2.ensures ∙ c.push_bits.ensures)
    ∙ ap (λ bs. length (bs ++ listed n (bit_of l))) c.new-names.ensures ∙ length_listed n (bit_of l) in
    let given : length c.as_slice-then-same_frames.result.now ≡ length c.args.arguments.now = ap (λ vs. length vs) c.as_slice-then-same_frames.ensures in
    let wide = c.width.ensures in
    let fits = c.requires.fits in
    omega arith
