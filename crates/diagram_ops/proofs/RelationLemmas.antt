-- The composition of relations between states, from that of references.
use Rattle.std.proofs.Common.{◌≡◌, ℕ, ◌+◌, ◌*◌, ◌/◌, ◌%◌, Bool, false, List, refl, sym, ap, ◌∙◌, inl, inr, arith}
use Rattle.std.specs.Prelude.{◌↔◌, IsTrue, nat_eq, cond}
use Rattle.std.proofs.lemmas.Bool.{cond-true, cond-false, cases_eq, eq-eqb, eqb-true, false_from_ne_true}
use Rattle.diagram_store.specs.declared.branch.Branch.{Branch}
use Rattle.diagram_store.specs.Nodes.{IsReduced}
use Rattle.diagram_store.specs.declared.diagram.Diagram.{Diagram}
use Rattle.diagram_store.specs.Diagrams.{meaning}
use Rattle.diagram_store.specs.Meaning.{value_at}
use Rattle.diagram_store.proofs.CallerLemmas.{value_agrees}
use Rattle.diagram_ops.specs.declared.composing.Operand.TheVariants.{First, Second}
use Rattle.diagram_ops.specs.Relations.{of_states, relates, RelatesThrough}
use Rattle.diagram_ops.specs.NodeTables.{leads_at}
use Rattle.diagram_ops.specs.private.Composing.{position, IsComposed}

apart : (k m : ℕ) → (k ≡ m → ⊥) → nat_eq k m ≡ false
apart k m h = false_from_ne_true (nat_eq k m) (λ e. h (eqb-true k m e))

pub old_value : (old new : ℕ → Bool) (v : ℕ) → v % 2 ≡ 0 → of_states old new v ≡ old (v / 2)
old_value old new v e = cond-true (nat_eq (v % 2) 0) (old (v / 2)) (new (v / 2)) (eq-eqb (v % 2) 0 e)

pub new_value : (old new : ℕ → Bool) (v : ℕ) → (v % 2 ≡ 0 → ⊥) → of_states old new v ≡ new (v / 2)
new_value old new v e = cond-false (nat_eq (v % 2) 0) (old (v / 2)) (new (v / 2)) (apart (v % 2) 0 e)

-- bits at places by three states
module _ (old middle new all : ℕ → Bool) (stays : (v : ℕ) → all (2 * v) ≡ of_states old new v) (between : (i : ℕ) → all (4 * i + 1) ≡ middle i) where
  first_bits : (v : ℕ) → all (position First v) ≡ of_states old middle v
  first_bits v = elim (cases_eq (v % 2) 0) [
    | inl even ↦
        let is : 4 * (v / 2) + v % 2 ≡ 2 * v = omega arith in
        ap all is ∙ stays v ∙ old_value old new v even ∙ sym (old_value old middle v even)
    | inr odd ↦
        let is : 4 * (v / 2) + v % 2 ≡ 4 * (v / 2) + 1 = omega arith in
        ap all is ∙ between (v / 2) ∙ sym (new_value old middle v odd)
  ]

  second_bits : (v : ℕ) → all (position Second v) ≡ of_states middle new v
  second_bits v = elim (cases_eq (v % 2) 0) [
    | inl even ↦
        let is : 4 * (v / 2) + v % 2 + 1 ≡ 4 * (v / 2) + 1 = omega arith in
        ap all is ∙ between (v / 2) ∙ sym (old_value middle new v even)
    | inr odd ↦
        let is : 4 * (v / 2) + v % 2 + 1 ≡ 2 * v = omega arith in
        ap all is ∙ stays v ∙ new_value old new v odd ∙ sym (new_value middle new v odd)
  ]

pub same_bits : (nodes : List Branch) → IsReduced nodes → (r : ℕ) (bits other : ℕ → Bool) → ((v : ℕ) → bits v ≡ other v) → value_at nodes r bits ≡ value_at nodes r other
same_bits nodes all r bits other same = value_agrees nodes all bits other (λ s. s ≡ s) (λ s n e i. (same n.var, refl, refl)) r r (omega arith) refl

-- each place by three states
abbrev spread : (old middle new : ℕ → Bool) → ℕ → Bool
spread old middle new p = cond (nat_eq (p % 2) 1) (middle (p / 4)) (of_states old new (p / 2))

spread_stays : (old middle new : ℕ → Bool) (v : ℕ) → spread old middle new (2 * v) ≡ of_states old new v
spread_stays old middle new v =
    let even : 2 * v % 2 ≡ 1 → ⊥ = omega arith in
    let is : 2 * v / 2 ≡ v = omega arith in
    cond-false (nat_eq (2 * v % 2) 1) (middle (2 * v / 4)) (of_states old new (2 * v / 2)) (apart (2 * v % 2) 1 even) ∙ ap (of_states old new) is

spread_between : (old middle new : ℕ → Bool) (i : ℕ) → spread old middle new (4 * i + 1) ≡ middle i
spread_between old middle new i =
    let odd : (4 * i + 1) % 2 ≡ 1 = omega arith in
    let is : (4 * i + 1) / 4 ≡ i = omega arith in
    cond-true (nat_eq ((4 * i + 1) % 2) 1) (middle ((4 * i + 1) / 4)) (of_states old new ((4 * i + 1) / 2)) (eq-eqb ((4 * i + 1) % 2) 1 odd) ∙ ap middle is

-- the composition of two references as one of relations between states
pub leads_composed : (xs ys : List Branch) → IsReduced xs → IsReduced ys → (x y : ℕ) (nodes : List Branch) (r : ℕ) → ((bits : ℕ → Bool) → IsComposed xs ys x y bits (value_at nodes r bits))
    → (old new : ℕ → Bool) → IsTrue (leads_at nodes r old new) ↔ ((middle : ℕ → Bool) × IsTrue (leads_at xs x old middle) × IsTrue (leads_at ys y middle new))
leads_composed xs ys wholex wholey x y nodes r means old new = (
  λ yes.
      let o = (means (of_states old new)).0 yes in
      let middle : ℕ → Bool = λ k. o.0 (4 * k + 1) in
      let f = first_bits old middle new o.0 o.1 (λ k. refl) in
      let g = second_bits old middle new o.0 o.1 (λ k. refl) in (
        middle,
        sym (same_bits xs wholex x (λ v. o.0 (position First v)) (of_states old middle) f) ∙ o.2,
        sym (same_bits ys wholey y (λ v. o.0 (position Second v)) (of_states middle new) g) ∙ o.3,
      ),
  λ m.
      let all : ℕ → Bool = spread old m.0 new in
      let f = first_bits old m.0 new all (spread_stays old m.0 new) (spread_between old m.0 new) in
      let g = second_bits old m.0 new all (spread_stays old m.0 new) (spread_between old m.0 new) in
      (means (of_states old new)).1 (
        all,
        spread_stays old m.0 new,
        same_bits xs wholex x (λ v. all (position First v)) (of_states old m.0) f ∙ m.1,
        same_bits ys wholey y (λ v. all (position Second v)) (of_states m.0 new) g ∙ m.2,
      ),
)

-- the result, made of scratch nodes
pub relates_composed : (a b : Diagram) (nodes : List Branch) (r : ℕ) → ((bits : ℕ → Bool) → IsComposed a.nodes b.nodes a.root b.root bits (value_at nodes r bits))
    → (d : Diagram) → ((bits : ℕ → Bool) → meaning d bits ≡ value_at nodes r bits) → (old new : ℕ → Bool) → IsTrue (relates d old new) ↔ RelatesThrough a b old new
relates_composed a b nodes r means d dr old new =
    let leads = leads_composed a.nodes b.nodes a.is_canonical.reduced b.is_canonical.reduced a.root b.root nodes r means old new in
    (λ yes. leads.0 (sym (dr (of_states old new)) ∙ yes), λ m. dr (of_states old new) ∙ leads.1 m)
