-- A result has no variable from a limit on where no operand has one: its value reads none of these bits.
use Rattle.std.proofs.Common.{◌≡◌, ℕ, zero, suc, ◌+◌, ◌*◌, ◌/◌, ◌%◌, ◌<◌, Bool, true, false, List, [], refl, sym, ap, ◌∙◌, inl, inr, arith}
use Rattle.std.specs.Prelude.{◌↔◌, None, Some, IsTrue, nat_eq, nat_lt, cond}
use Rattle.std.proofs.lemmas.Bool.{cond-true, cond-false, cases_Bool, cases_eq, lt-ltb, ltb-true}
use Rattle.truth_tables.specs.Tables.{value3_of}
use Rattle.diagram_store.specs.declared.branch.Branch.{Branch}
use Rattle.diagram_store.specs.declared.diagram.Diagram.{Diagram}
use Rattle.diagram_store.specs.Nodes.{node_at, HasVariablesBelow}
use Rattle.diagram_store.specs.Meaning.{set_bit}
use Rattle.diagram_store.specs.Diagrams.{meaning, IsOver, ReadsBelow}
use Rattle.diagram_ops.specs.Quantifying.{IsTrueOnSome}
use Rattle.diagram_ops.specs.Relations.{of_states, relates, RelatesThrough}
use Rattle.diagram_ops.proofs.ApplyingLemmas.{value3_same}
use Rattle.diagram_ops.proofs.RelationLemmas.{old_value, new_value, same_bits}

abbrev AgreeBelow : ℕ → (ℕ → Bool) → (ℕ → Bool) → Type 0
AgreeBelow limit bits other = (k : ℕ) → k < limit → bits k ≡ other k

same_truth : (a b : Bool) → (a ≡ true → b ≡ true) → (b ≡ true → a ≡ true) → a ≡ b
same_truth true b f g = sym (f refl)
same_truth false true f g = g refl
same_truth false false f g = refl

nowhere : (r : ℕ) → node_at [] r ≡ None
nowhere zero = refl
nowhere (suc zero) = refl
nowhere (suc (suc k)) = refl

pub no_variables : (limit : ℕ) (nodes : List Branch) → nodes ≡ [] → HasVariablesBelow limit nodes
no_variables limit nodes e r n at = let f : None ≡ Some n = sym (nowhere r) ∙ ap (λ l. node_at l r) (sym e) ∙ at in cc

-- what `independent_variables` says
abbrev pub ReadsAll : Type 0
ReadsAll = (d : Diagram) (limit : ℕ) → ReadsBelow limit d ↔ IsOver limit d

module _ (law : ReadsAll) (limit : ℕ) (d : Diagram) where
  pub applied_below : (table : ℕ) (a b c : Diagram) → ((bits : ℕ → Bool) → meaning d bits ≡ value3_of table (meaning a bits) (meaning b bits) (meaning c bits))
      → IsOver limit a → IsOver limit b → IsOver limit c → IsOver limit d
  applied_below table a b c means oa ob oc = (law d limit).0 (λ bits other same.
      means bits
      ∙ value3_same table (meaning a bits) (meaning b bits) (meaning c bits) (meaning a other) (meaning b other) (meaning c other)
      ((law a limit).1 oa bits other same) ((law b limit).1 ob bits other same) ((law c limit).1 oc bits other same)
      ∙ sym (means other))

  pub restricted_below : (a : Diagram) (var : ℕ) (value : Bool) → ((bits : ℕ → Bool) → meaning d bits ≡ meaning a (set_bit bits var value)) → IsOver limit a → IsOver limit d
  restricted_below a var value means oa = (law d limit).0 (λ bits other same.
      means bits
      ∙ (law a limit).1 oa (set_bit bits var value) (set_bit other var value) (λ k below. ap (λ s. cond (nat_eq k var) value s) (same k below))
      ∙ sym (means other))

  module _ (a : Diagram) (oa : IsOver limit a) where
    -- the bits of one below the limit, and of the other from there on
    on_other : (vars : List ℕ) (bits other : ℕ → Bool) → AgreeBelow limit bits other → IsTrueOnSome a vars bits → IsTrueOnSome a vars other
    on_other vars bits other same o =
        let joined : ℕ → Bool = λ k. cond (nat_lt k limit) (o.0 k) (other k) in
        let low : (k : ℕ) → k < limit → joined k ≡ o.0 k = λ k below. cond-true (nat_lt k limit) (o.0 k) (other k) (lt-ltb k limit below) in (
          joined,
          λ k off. elim (cases_Bool (nat_lt k limit)) [
            | inl e ↦ cond-true (nat_lt k limit) (o.0 k) (other k) e ∙ o.1 k off ∙ same k (ltb-true k limit e)
            | inr e ↦ cond-false (nat_lt k limit) (o.0 k) (other k) e
          ],
          (law a limit).1 oa joined o.0 low ∙ o.2,
        )

    pub quantified_below : (vars : List ℕ) → ((bits : ℕ → Bool) → IsTrue (meaning d bits) ↔ IsTrueOnSome a vars bits) → IsOver limit d
    quantified_below vars means = (law d limit).0 (λ bits other same.
        same_truth (meaning d bits) (meaning d other)
        (λ holds. (means other).1 (on_other vars bits other same ((means bits).0 holds)))
        (λ holds. (means bits).1 (on_other vars other bits (λ k below. sym (same k below)) ((means other).0 holds))))

-- the old and the new values in bits
abbrev old_of : (ℕ → Bool) → ℕ → Bool
old_of bits i = bits (2 * i)

abbrev new_of : (ℕ → Bool) → ℕ → Bool
new_of bits i = bits (2 * i + 1)

old_bit : (bits : ℕ → Bool) (v : ℕ) → v % 2 ≡ 0 → old_of bits (v / 2) ≡ bits v
old_bit bits v e = let is : 2 * (v / 2) ≡ v = omega arith in ap bits is

new_bit : (bits : ℕ → Bool) (v : ℕ) → (v % 2 ≡ 0 → ⊥) → new_of bits (v / 2) ≡ bits v
new_bit bits v e = let is : 2 * (v / 2) + 1 ≡ v = omega arith in ap bits is

own_states : (bits : ℕ → Bool) (v : ℕ) → bits v ≡ of_states (old_of bits) (new_of bits) v
own_states bits v = elim (cases_eq (v % 2) 0) [
  | inl even ↦ sym (old_value (old_of bits) (new_of bits) v even ∙ old_bit bits v even)
  | inr odd ↦ sym (new_value (old_of bits) (new_of bits) v odd ∙ new_bit bits v odd)
]

old_agrees : (limit : ℕ) (bits other middle : ℕ → Bool) → AgreeBelow limit bits other → AgreeBelow limit (of_states (old_of bits) middle) (of_states (old_of other) middle)
old_agrees limit bits other middle same v below = elim (cases_eq (v % 2) 0) [
  | inl even ↦ old_value (old_of bits) middle v even ∙ old_bit bits v even ∙ same v below ∙ sym (old_value (old_of other) middle v even ∙ old_bit other v even)
  | inr odd ↦ new_value (old_of bits) middle v odd ∙ sym (new_value (old_of other) middle v odd)
]

new_agrees : (limit : ℕ) (bits other middle : ℕ → Bool) → AgreeBelow limit bits other → AgreeBelow limit (of_states middle (new_of bits)) (of_states middle (new_of other))
new_agrees limit bits other middle same v below = elim (cases_eq (v % 2) 0) [
  | inl even ↦ old_value middle (new_of bits) v even ∙ sym (old_value middle (new_of other) v even)
  | inr odd ↦ new_value middle (new_of bits) v odd ∙ new_bit bits v odd ∙ same v below ∙ sym (new_value middle (new_of other) v odd ∙ new_bit other v odd)
]

module _ (law : ReadsAll) (limit : ℕ) (d a b : Diagram) (oa : IsOver limit a) (ob : IsOver limit b)
    (means : (old new : ℕ → Bool) → IsTrue (relates d old new) ↔ RelatesThrough a b old new) where
  on : (bits other : ℕ → Bool) → AgreeBelow limit bits other → relates d (old_of bits) (new_of bits) ≡ true → relates d (old_of other) (new_of other) ≡ true
  on bits other same holds =
      let m = (means (old_of bits) (new_of bits)).0 holds in
      let back : AgreeBelow limit other bits = λ k below. sym (same k below) in
      (means (old_of other) (new_of other)).1 (
        m.0,
        (law a limit).1 oa (of_states (old_of other) m.0) (of_states (old_of bits) m.0) (old_agrees limit other bits m.0 back) ∙ m.1,
        (law b limit).1 ob (of_states m.0 (new_of other)) (of_states m.0 (new_of bits)) (new_agrees limit other bits m.0 back) ∙ m.2,
      )

  pub composed_below : IsOver limit d
  composed_below = (law d limit).0 (λ bits other same.
      same_bits d.nodes d.is_canonical.reduced d.root bits (of_states (old_of bits) (new_of bits)) (own_states bits)
      ∙ same_truth (relates d (old_of bits) (new_of bits)) (relates d (old_of other) (new_of other)) (on bits other same) (on other bits (λ k below. sym (same k below)))
      ∙ sym (same_bits d.nodes d.is_canonical.reduced d.root other (of_states (old_of other) (new_of other)) (own_states other)))
