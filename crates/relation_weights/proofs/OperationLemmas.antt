-- The short cuts of the operations.
use Rattle.std.proofs.Common.{◌≡◌, ℕ, ◌*◌, ◌↔◌, Bool, List, [], refl, sym, ap, ap₂, ◌∙◌, subst, arith}
use Rattle.std.specs.Prelude.{IsTrue, nat_eq}
use Rattle.std.proofs.lemmas.Bool.{eqb-true, eq-eqb}
use Rattle.diagram_store.specs.declared.branch.Branch.{Branch}
use Rattle.diagram_store.specs.declared.diagram.Diagram.{Diagram}
use Rattle.diagram_store.specs.Nodes.{HasVariablesBelow}
use Rattle.diagram_store.specs.Meaning.{value_at}
use Rattle.diagram_store.proofs.CallerLemmas.{value_at_end, canonical_is_one, constant_canonical}
use Rattle.diagram_ops.specs.Relations.{of_states}
use Rattle.diagram_ops.proofs.CallerLemmas.{no_variables}
use Rattle.relation_laws.specs.Building.{Parts}
use Rattle.relation_laws.specs.Relations.{Pairs, leads, relation_of, no_pairs, composition}
use Rattle.relation_laws.proofs.CallerLemmas.{FitsIn, is_relation_of, nothing, stay, combined, extended, combined_same, combined_comm, combined_nothing, extended_nothing_left, extended_nothing_right, extended_stay_left, extended_stay_right, relation_fits, composition_gives, composition_from, leads_reads, fits_below, same_truth}
use Rattle.relation_weights.specs.Relations.{relation_fits as fits_relation}
use Rattle.relation_weights.specs.RelationLaws.{fits_by}
use Rattle.relation_weights.proofs.DiagramLemmas.{made}

abbrev empty_parts : Parts
empty_parts = record { root = 0; nodes = [] }

nothing_is : (n : ℕ) → empty_parts ≡ nothing n
nothing_is n = is_relation_of n empty_parts (constant_canonical [] 0 refl (omega arith)) (no_variables (2 * n) [] refl) no_pairs (λ x y. value_at_end [] 0 (of_states x y) refl)

abbrev pub parts_of : Diagram → Parts
parts_of d = record { root = d.root; nodes = d.nodes }

empty_nodes : (d : Diagram) → d.root ≡ 0 → d.nodes ≡ []
empty_nodes d e =
    (canonical_is_one d.nodes [] d.root 0 d.is_canonical (constant_canonical [] 0 refl (omega arith)) (λ bits.
    ap (λ r. value_at d.nodes r bits) e ∙ value_at_end d.nodes 0 bits refl ∙ sym (value_at_end [] 0 bits refl))).1

pub empty_is : (d : Diagram) (n : ℕ) → IsTrue (nat_eq d.root 0) ↔ (parts_of d ≡ nothing n)
empty_is d n = (
  λ yes.
      let e : d.root ≡ 0 = eqb-true d.root 0 yes in
      made d n no_pairs (no_variables (2 * n) d.nodes (empty_nodes d e)) (λ x y. ap (λ r. value_at d.nodes r (of_states x y)) e ∙ value_at_end d.nodes 0 (of_states x y) refl),
  λ is. eq-eqb d.root 0 (ap (λ p. p.root) (is ∙ sym (nothing_is n))),
)

module _ (n : ℕ) (a b : Parts) (fa : FitsIn n a) (fb : FitsIn n b) where
  pub combine-empty_left : a ≡ nothing n → b ≡ combined n a b
  combine-empty_left e = let P : Parts → Type 0 = λ w. b ≡ combined n w b in subst P (sym e) (sym (combined_nothing n b fb))

  pub combine-empty_right : b ≡ nothing n → a ≡ combined n a b
  combine-empty_right e = let P : Parts → Type 0 = λ w. a ≡ combined n a w in subst P (sym e) (sym (combined_comm n a (nothing n) ∙ combined_nothing n a fa))

  pub combine-equal : a ≡ b → a ≡ combined n a b
  combine-equal e = let P : Parts → Type 0 = λ w. a ≡ combined n a w in subst P e (sym (combined_same n a fa))

  pub extend-empty_left : a ≡ nothing n → a ≡ extended n a b
  extend-empty_left e = let P : Parts → Type 0 = λ w. w ≡ extended n w b in subst P (sym e) (sym (extended_nothing_left n b fb))

  pub extend-empty_right : b ≡ nothing n → b ≡ extended n a b
  extend-empty_right e = let P : Parts → Type 0 = λ w. w ≡ extended n a w in subst P (sym e) (sym (extended_nothing_right n a fa))

  pub extend-identity_left : a ≡ stay n → b ≡ extended n a b
  extend-identity_left e = let P : Parts → Type 0 = λ w. b ≡ extended n w b in subst P (sym e) (sym (extended_stay_left n b fb))

  pub extend-identity_right : b ≡ stay n → a ≡ extended n a b
  extend-identity_right e = let P : Parts → Type 0 = λ w. a ≡ extended n a w in subst P (sym e) (sym (extended_stay_right n a fa))

  -- a middle state, as the operation on diagrams tells it
  pub composed : (p q : Pairs) → ((x y : ℕ → Bool) → p x y ≡ leads a x y) → ((x y : ℕ → Bool) → q x y ≡ leads b x y) → (l : Bool) (x z : ℕ → Bool)
      → (IsTrue l ↔ ((y : ℕ → Bool) × IsTrue (p x y) × IsTrue (q y z))) → l ≡ composition n (leads a) (leads b) x z
  composed p q pa qb l x z by = same_truth l (composition n (leads a) (leads b) x z)
      (λ h. let m = by.0 h in composition_from n (leads a) (leads b) (leads_reads n a fa) (leads_reads n b fb) x m.0 z (sym (pa x m.0) ∙ m.1) (sym (qb m.0 z) ∙ m.2))
      (λ h. let m = composition_gives n (leads a) (leads b) x z h in by.1 (m.0, pa x m.0 ∙ m.1, qb m.0 z ∙ m.2))

pub same_leads : (w : Parts) (root : ℕ) (nodes : List Branch) → root ≡ w.root → nodes ≡ w.nodes → (x y : ℕ → Bool) → value_at nodes root (of_states x y) ≡ leads w x y
same_leads w root nodes r e x y = ap₂ (λ i ns. value_at ns i (of_states x y)) r e

pub diagram_below : (n : ℕ) (w : Parts) → FitsIn n w → (nodes : List Branch) → nodes ≡ w.nodes → HasVariablesBelow (2 * n) nodes
diagram_below n w fit nodes e = let P : List Branch → Type 0 = λ ns. HasVariablesBelow (2 * n) ns in subst P (sym e) (fits_below n w fit)

pub fits_of : (n : ℕ) (a : Pairs) (w : Parts) → w ≡ relation_of n a → IsTrue (fits_relation n w)
fits_of n a w e = let P : Parts → Type 0 = λ v. IsTrue (fits_relation n v) in subst P (sym e) (fits_by n (relation_of n a) (relation_fits n a))
