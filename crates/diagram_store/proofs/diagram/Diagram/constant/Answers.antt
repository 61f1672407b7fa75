use Rattle.std.proofs.Common.{◌≡◌, ◌<◌, ℕ, Bool, true, false, refl, sym, ap, subst, ◌∙◌, arith}
use Rattle.std.specs.Prelude.{nat_eq}
use mir.Val.{bool_byte}
use Rattle.diagram_store.proofs.SmallLemmas.{constant_canonical, constant_value}
use Rattle.diagram_store.proofs.diagram.Diagram.constant.Goals as goal

byte_below : (b : Bool) → bool_byte b < 2
byte_below true = omega arith
byte_below false = omega arith

byte_is : (b : Bool) → nat_eq (bool_byte b) 1 ≡ b
byte_is true = refl
byte_is false = refl

below : (k : ℕ) (b : Bool) → k ≡ bool_byte b → k < 2
below k b e = subst (λ (n : ℕ). n < 2) (sym e) (byte_below b)

pub invariant_of-result : goal.invariant_of-result
invariant_of-result c = record { is_canonical = constant_canonical c.from_vec.result c.from.result (c.from_vec.ensures ∙ c.new.ensures.items) (below c.from.result c.args.value c.from.ensures) }

pub returns-clause-value : goal.returns-clause-value
returns-clause-value c = λ bits. constant_value c.from_vec.result c.from.result c.args.value bits (below c.from.result c.args.value c.from.ensures)
    (ap (λ k. nat_eq k 1) c.from.ensures ∙ byte_is c.args.value)
