-- Pairs of states, by the bits of a diagram.
use Rattle.std.proofs.Common.{◌≡◌, ℕ, suc, ◌+◌, ◌*◌, ◌/◌, ◌%◌, ◌<◌, Bool, true, false, ◌&&◌, List, length, refl, sym, ap, ap₂, ◌∙◌, subst, inl, inr, arith}
use Rattle.std.specs.Prelude.{IsTrue, slice_index}
use Rattle.std.proofs.lemmas.Bool.{cases_eq}
use Rattle.truth_tables.specs.Tables.{value2_of}
use Rattle.diagram_store.specs.declared.branch.Branch.{Branch}
use Rattle.diagram_store.specs.declared.diagram.Diagram.{Diagram}
use Rattle.diagram_store.specs.Nodes.{HasVariablesBelow}
use Rattle.diagram_store.specs.Diagrams.{IsOver, meaning}
use Rattle.diagram_store.specs.Meaning.{bits_of, value_at}
use Rattle.relation_laws.specs.Relations.{leads}
use Rattle.diagram_store.proofs.CallerLemmas.{reads_below}
use Rattle.diagram_ops.specs.Relations.{of_states}
use Rattle.diagram_ops.proofs.CallerLemmas.{old_value, new_value}
use Rattle.relation_laws.specs.Building.{Parts}
use Rattle.relation_laws.proofs.CallerLemmas.{fits_below}
use Rattle.relation_weights.specs.Relations.{relation_fits}
use Rattle.relation_weights.specs.RelationLaws.{fits_in}
use Rattle.relation_picks.specs.private.Sides.{with_side}
use Rattle.relation_picks.proofs.SideLemmas.{inside, outside}

-- the variables of a relation's diagram
pub below_of : (n : ℕ) (w : Parts) → IsTrue (relation_fits n w) → (nodes : List Branch) → nodes ≡ w.nodes → HasVariablesBelow (2 * n) nodes
below_of n w fit nodes e = subst (HasVariablesBelow (2 * n)) (sym e) (fits_below n w (fits_in n w fit))

module _ (n : ℕ) (d : Diagram) (over : IsOver (2 * n) d) (x y bits : ℕ → Bool) where
  -- bits that are those of two states
  by_variables : ((v : ℕ) → v < 2 * n → bits v ≡ of_states x y v) → meaning d bits ≡ meaning d (of_states x y)
  by_variables same = reads_below (2 * n) d.nodes d.is_canonical.reduced d.root over bits (of_states x y) same

  pub by_sides : ((i : ℕ) → i < n → x i ≡ bits (2 * i)) → ((i : ℕ) → i < n → y i ≡ bits (2 * i + 1)) → meaning d bits ≡ meaning d (of_states x y)
  by_sides old new = by_variables (λ v below. elim (cases_eq (v % 2) 0) [
    | inl even ↦
        let at : v ≡ 2 * (v / 2) = omega arith in
        ap bits at ∙ sym (old (v / 2) (omega arith)) ∙ sym (old_value x y v even)
    | inr odd ↦
        let at : v ≡ 2 * (v / 2) + 1 = omega arith in
        ap bits at ∙ sym (new (v / 2) (omega arith)) ∙ sym (new_value x y v odd)
  ])

module _ (n : ℕ) (d : Diagram) (over : IsOver (2 * n) d) (x y bits : ℕ → Bool) where
  -- the old state is given
  pub led_is : ((i : ℕ) → i < n → y i ≡ bits (2 * i + 1)) → meaning d (with_side 0 n x bits) ≡ meaning d (of_states x y)
  led_is new = by_sides n d over x y (with_side 0 n x bits)
      (λ i below.
      let half : (2 * i) / 2 ≡ i = omega arith in
      sym (inside 0 n x bits (2 * i) (omega arith) (omega arith) ∙ ap x half))
      (λ i below. new i below ∙ sym (outside 0 n x bits (2 * i + 1) (λ at _. omega arith)))

  -- the new state is given
  pub leading_is : ((i : ℕ) → i < n → x i ≡ bits (2 * i)) → meaning d (with_side 1 n y bits) ≡ meaning d (of_states x y)
  leading_is old = by_sides n d over x y (with_side 1 n y bits)
      (λ i below. old i below ∙ sym (outside 1 n y bits (2 * i) (λ at _. omega arith)))
      (λ i below.
      let half : (2 * i + 1) / 2 ≡ i = omega arith in
      sym (inside 1 n y bits (2 * i + 1) (omega arith) (omega arith) ∙ ap y half))

pub both : (a b : Bool) → value2_of 8 a b ≡ (a && b)
both true true = refl
both true false = refl
both false true = refl
both false false = refl

-- bits by names that are one more each
pub moved_is : (n : ℕ) (d : Diagram) → IsOver n d → (names : List ℕ) → ((k : ℕ) → k < n → slice_index names k ≡ suc k) → (bits : ℕ → Bool)
    → meaning d (λ v. bits (slice_index names v)) ≡ meaning d (λ v. bits (suc v))
moved_is n d over names are bits =
    reads_below n d.nodes d.is_canonical.reduced d.root over (λ v. bits (slice_index names v)) (λ v. bits (suc v)) (λ v below. ap bits (are v below))

-- ---- relations whose old or new state is given

same_leads : (d : Diagram) (w : Parts) → d.root ≡ w.root → d.nodes ≡ w.nodes → (x y : ℕ → Bool) → meaning d (of_states x y) ≡ leads w x y
same_leads d w root nodes x y = ap₂ (λ (r : ℕ) (ns : List Branch). value_at ns r (of_states x y)) root nodes

module _ (n : ℕ) (d : Diagram) (w : Parts) (root : d.root ≡ w.root) (nodes : d.nodes ≡ w.nodes) (fit : IsTrue (relation_fits n w)) where
  pub led_leads : (made : Diagram) (list : List Bool) → length list ≡ n → ((bits : ℕ → Bool) → meaning made bits ≡ meaning d (with_side 0 (length list) (bits_of list) bits)) → (bits y : ℕ → Bool) → ((i : ℕ) → i < n → y i ≡ bits (2 * i + 1))
      → meaning made bits ≡ leads w (bits_of list) y
  led_leads made list long value bits y new =
      value bits
      ∙ ap (λ k. meaning d (with_side 0 k (bits_of list) bits)) long
      ∙ led_is n d (below_of n w fit d.nodes nodes) (bits_of list) y bits new
      ∙ same_leads d w root nodes (bits_of list) y

  pub leading_leads : (made : Diagram) (list : List Bool) → length list ≡ n → ((bits : ℕ → Bool) → meaning made bits ≡ meaning d (with_side 1 (length list) (bits_of list) bits)) → (bits x : ℕ → Bool) → ((i : ℕ) → i < n → x i ≡ bits (2 * i))
      → meaning made bits ≡ leads w x (bits_of list)
  leading_leads made list long value bits x old =
      value bits
      ∙ ap (λ k. meaning d (with_side 1 k (bits_of list) bits)) long
      ∙ leading_is n d (below_of n w fit d.nodes nodes) x (bits_of list) bits old
      ∙ same_leads d w root nodes x (bits_of list)

  -- both are
  pub pair_leads : (bits x y : ℕ → Bool) → ((i : ℕ) → i < n → x i ≡ bits (2 * i)) → ((i : ℕ) → i < n → y i ≡ bits (2 * i + 1)) → meaning d bits ≡ leads w x y
  pair_leads bits x y old new = by_sides n d (below_of n w fit d.nodes nodes) x y bits old new ∙ same_leads d w root nodes x y
