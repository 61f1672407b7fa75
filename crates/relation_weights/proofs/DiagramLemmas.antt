-- From diagrams to relations, and the tables that this crate applies.
use Rattle.std.proofs.Common.{◌≡◌, ℕ, ◌*◌, Bool, true, false, not, ◌&&◌, ◌||◌, refl, sym, ap, ap₂, ◌∙◌}
use Rattle.truth_tables.specs.Tables.{value2_of, value3_of}
use Rattle.diagram_store.specs.declared.diagram.Diagram.{Diagram}
use Rattle.diagram_store.specs.Diagrams.{IsOver}
use Rattle.relation_laws.specs.Building.{Parts}
use Rattle.relation_laws.specs.States.{same_bit}
use Rattle.relation_laws.specs.Relations.{Pairs, relation_of}
use Rattle.relation_laws.proofs.CallerLemmas.{is_relation_of}
use Rattle.relation_weights.specs.private.Diagrams.{HasPairs}

pub made : (d : Diagram) (n : ℕ) (a : Pairs) → IsOver (2 * n) d → HasPairs d a
    → ◌≡◌ {A = Parts} (record { root = d.root; nodes = d.nodes }) (relation_of n a)
made d n a below same = is_relation_of n (record { root = d.root; nodes = d.nodes }) d.is_canonical below a same

pub neither : (b : Bool) → value2_of 1 b b ≡ not b
neither true = refl
neither false = refl

pub both : (a b : Bool) → value2_of 8 a b ≡ (a && b)
both true true = refl
both true false = refl
both false true = refl
both false false = refl

pub either : (a b : Bool) → value2_of 14 a b ≡ (a || b)
either true true = refl
either true false = refl
either false true = refl
either false false = refl

pub and_same : (a b c : Bool) → value3_of 144 a b c ≡ (a && same_bit b c)
and_same true true true = refl
and_same true true false = refl
and_same true false true = refl
and_same true false false = refl
and_same false true true = refl
and_same false true false = refl
and_same false false true = refl
and_same false false false = refl

pub moved_value : (a b c p q f : Bool) → b ≡ p → c ≡ q → f ≡ false → value3_of 144 a b c ≡ (a && (f || same_bit p q))
moved_value a b c p q f e g h = and_same a b c ∙ ap (λ t. a && t) (ap₂ same_bit e g ∙ ap (λ t. t || same_bit p q) (sym h))
