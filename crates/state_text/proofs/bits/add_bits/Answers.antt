use Rattle.std.proofs.Common.{◌≡◌, ◌+◌, ◌++◌, ◌∷◌, ◌∙◌, ◌/◌, ℕ, suc, length, sym, ap, append_assoc, arith}
use Rattle.boolean_machine.specs.Picks.{listed}
use Rattle.boolean_meaning.specs.Bits.{bit_of, is_odd}
use Rattle.state_text.specs.States.{bit_text, bits_text}
use Rattle.state_text.proofs.bits.add_bits.Goals as goal

pub loop-name-preserved : goal.loop-name-preserved
loop-name-preserved c =
    let text = c.loop-name.text.items in
    let left = c.loop-name.left.now in
    let name = c.in-Some.name.now in
    let after = c.in-Some.after.now in
    let rest = c.loop-name.rest in
    let split : left ≡ name ∷ after = c.in-Some.ensures.cases.0 in
    let later = bits_text after (listed (length after) (bit_of (rest / 2))) in
    record {
      text =
          ap (λ t. t ++ later) c.in_ok-add_bit.ensures
          ∙ append_assoc text (bit_text name (is_odd rest)) later
          ∙ ap (λ ns. text ++ bits_text ns (listed (length ns) (bit_of rest))) (sym split)
          ∙ c.loop-name.invariant.text;
      rest = λ k.
          let count : suc (length after + k) ≡ length (name ∷ after) + k = omega arith in
          ap (bit_of rest) count
          ∙ ap (λ ns. bit_of rest (length ns + k)) (sym split)
          ∙ c.loop-name.invariant.rest k;
    }
