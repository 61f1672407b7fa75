use Rattle.std.proofs.Common.{◌≡◌, ◌++◌, length, ap, ◌∙◌, arith}
use Rattle.boolean_machine.specs.Picks.{listed}
use Rattle.boolean_meaning.specs.Bits.{bit_of}
use Rattle.boolean_meaning.proofs.ValueLemmas.{length_listed}
use Rattle.boolean_meaning.proofs.states.lowest.Goals as goal

pub number_of-requires : goal.number_of-requires
number_of-requires c =
    let long : length c.as_slice.result.now ≡ c.args.count =
    ap (λ bs. length bs) (c.as_slice.ensures ∙ c.push_bits.ensures)
    ∙ ap (λ bs. length (bs ++ listed c.args.count (bit_of c.args.number))) c.new-bits.ensures ∙ length_listed c.args.count (bit_of c.args.number) in
    omega arith
