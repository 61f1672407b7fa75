use Rattle.std.proofs.Common.{◌≡◌, ◌+◌, length, ap, ◌∙◌, arith}
use Rattle.boolean_machine.specs.Picks.{written}
use Rattle.boolean_meaning.specs.Bits.{bit_of}
use Rattle.boolean_meaning.specs.private.Outcomes.{bit_in}
use Rattle.boolean_meaning.proofs.ValueLemmas.{length_listed, length_names}
use Rattle.boolean_meaning.proofs.stepping.end.Goals as goal

pub set_names-requires-clause-globals : goal.set_names-requires-clause-globals
set_names-requires-clause-globals c =
    let kept = c.as_slice-waiting.result.now in
    let long : length c.written-names.result ≡ length kept =
    ap (λ bs. length bs) c.written-names.ensures ∙ length_listed (length kept) (written c.as_slice.result.now c.as_slice-2.result.now (bit_in kept)) in
    let names : length kept ≡ c.len.result + c.width.result =
    ap (λ bs. length bs) (c.as_slice-waiting.ensures ∙ c.bits_of_names-kept.ensures)
    ∙ length_names c.len.result c.width.result (bit_of c.args.state.now.globals) (bit_of c.in-Some.caller.locals) in
    let globals = c.len.ensures in
    omega arith
