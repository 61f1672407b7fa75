use Rattle.std.proofs.Common.{◌≡◌, ◌+◌, ◌++◌, ◌∙◌, ℕ, length, sym, ap, ap₂, append_assoc}
use Rattle.boolean_machine.specs.Picks.{listed}
use Rattle.boolean_meaning.specs.Bits.{bit_of}
use Rattle.state_text.specs.States.{bits_text}
use Rattle.boolean_meaning.proofs.CallerLemmas.{listed_same}
use Rattle.state_text.proofs.BitLemmas.{bits_joined}
use Rattle.state_text.proofs.bits.add_locals.Goals as goal

pub returns : goal.returns
returns c =
    let params = c.as_slice.result.now in
    let locals = c.as_slice-2.result.now in
    let number = c.args.locals in
    let rest = c.in_ok-rest.rest in
    let text = c.args.text.now.items in
    let first = bits_text params (listed (length params) (bit_of number)) in
    c.in_ok-add_bits.ensures.text
    ∙ ap (λ t. t ++ bits_text locals (listed (length locals) (bit_of rest))) c.in_ok-rest.ensures.text
    ∙ append_assoc text first (bits_text locals (listed (length locals) (bit_of rest)))
    ∙ ap (λ bs. text ++ (first ++ bits_text locals bs)) (listed_same (length locals) (bit_of rest) (λ k. bit_of number (length params + k)) (λ k. c.in_ok-rest.ensures.left k))
    ∙ ap (λ t. text ++ t) (sym (bits_joined params locals (bit_of number)))
    ∙ ap₂ (λ ps ls. text ++ bits_text (ps ++ ls) (listed (length ps + length ls) (bit_of number))) c.as_slice.ensures c.as_slice-2.ensures
