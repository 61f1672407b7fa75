use Rattle.std.proofs.Common.{◌≡◌, ◌++◌, arith, ap, ◌∙◌, length}
use Rattle.boolean_machine.specs.Picks.{listed}
use Rattle.boolean_meaning.specs.Bits.{bit_of}
use Rattle.boolean_meaning.proofs.ValueLemmas.{length_listed}
use Rattle.boolean_meaning.proofs.valuation.bits_of_names.Goals as goal

pub push_bits-requires-2 : goal.push_bits-requires-2
push_bits-requires-2 c =
    let long : length c.push_bits.new.self ≡ c.args.global_count =
    ap (λ bs. length bs) c.push_bits.ensures ∙ ap (λ bs. length (bs ++ listed c.args.global_count (bit_of c.args.globals))) c.new-bits.ensures
    ∙ length_listed c.args.global_count (bit_of c.args.globals) in
    omega arith
