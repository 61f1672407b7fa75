-- Paths to a final state read what the items match.
use Rattle.std.proofs.Common.{◌≡◌, inl, inr, ℕ, Bool, true, false, List, [], ◌∷◌, refl, sym, ap, ap₂, ◌∙◌, subst}
use Rattle.std.specs.Prelude.{◌↔◌, ◌||◌, ◌&&◌, nat_eq, IsTrue}
use Rattle.std.specs.List.{list_any}
use Rattle.std.proofs.lemmas.Bool.{and_parts, eq-eqb, eqb-true, false≢true}
use Rattle.config_patterns.specs.declared.item.Item.{Item}
use Rattle.config_patterns.specs.declared.edge.Edge.{Edge}
use Rattle.config_patterns.specs.Membership.{items_match}
use Rattle.config_patterns.specs.Edges.{edges_of, is_final_of}
use Rattle.wpds_base.specs.Lists.{IsIn}
use Rattle.config_patterns.specs.Paths.{Reads, IsRead}
use Rattle.config_patterns.proofs.MemberLemmas.{state_matches, state_goes, state_ends}

-- An edge that passes a test.
record Passing (test : Edge → Bool) (edges : List Edge) : Type 0 where
  edge : Edge
  there : IsIn edge edges
  passes : test edge ≡ true

passing : (test : Edge → Bool) (edges : List Edge) → list_any test edges ≡ true → Passing test edges
passing test [] h = absurd (false≢true h)
passing test (e ∷ es) h = elim (test e) as (λ b. test e ≡ b → (b || list_any test es) ≡ true → Passing test (e ∷ es)) [
  | true ↦ λ is _. record { edge = e; there = inl refl; passes = is }
  | false ↦ λ _ h. let rest = passing test es h in record { edge = rest.edge; there = inr rest.there; passes = rest.passes }
] refl h

or_true : (a : Bool) → (a || true) ≡ true
or_true true = refl
or_true false = refl

passed : (test : Edge → Bool) (edges : List Edge) (e : Edge) → IsIn e edges → test e ≡ true → list_any test edges ≡ true
passed test [] e there h = elim there [ ]
passed test (d ∷ ds) e (inl is) h = ap (λ b. b || list_any test ds) (ap test is ∙ h)
passed test (d ∷ ds) e (inr there) h = ap (λ b. test d || b) (passed test ds e there h) ∙ or_true (test d)

module _ (items : List Item) where
  edges : List Edge
  edges = edges_of items

  -- A path from a state to a final one.
  record Accepts (k : ℕ) (word : List ℕ) : Type 0 where
    to : ℕ
    path : Reads (edges_of items) k word to
    final : is_final_of items to ≡ true

  accepts : (word : List ℕ) (k : ℕ) → state_matches items k word ≡ true → Accepts k word
  accepts [] k h = record { to = k; path = refl; final = sym (state_ends items k) ∙ h }
  accepts (g ∷ word) k h =
      let test = λ (e : Edge). nat_eq e.from k && (nat_eq e.symbol g && state_matches items e.to word) in
      let found = passing test (edges_of items) (state_goes items k g word ∙ h) in
      let e = found.edge in
      let from : e.from ≡ k = eqb-true e.from k (and_parts _ _ found.passes).0 in
      let rest : (nat_eq e.symbol g && state_matches items e.to word) ≡ true = (and_parts (nat_eq e.from k) _ found.passes).1 in
      let symbol : e.symbol ≡ g = eqb-true e.symbol g (and_parts _ _ rest).0 in
      let on = accepts word e.to (and_parts (nat_eq e.symbol g) _ rest).1 in
      let same : e ≡ record { from = k; symbol = g; to = e.to } = ap₂ (λ n h. let d : Edge = record { from = n; symbol = h; to = e.to } in d) from symbol in
      let P : Edge → Type 0 = λ d. IsIn d (edges_of items) in
      record { to = on.to; path = (e.to, subst P same found.there, on.path); final = on.final }

  accepted : (word : List ℕ) (k q : ℕ) → Reads (edges_of items) k word q → is_final_of items q ≡ true → state_matches items k word ≡ true
  accepted [] k q is final = state_ends items k ∙ ap (is_final_of items) is ∙ final
  accepted (g ∷ word) k q path final =
      let test = λ (e : Edge). nat_eq e.from k && (nat_eq e.symbol g && state_matches items e.to word) in
      let on : state_matches items path.0 word ≡ true = accepted word path.0 q path.2 final in
      let here : test (record { from = k; symbol = g; to = path.0 }) ≡ true =
      ap₂ (λ a b. a && (b && state_matches items path.0 word)) (eq-eqb k k refl) (eq-eqb g g refl) ∙ on in
      sym (state_goes items k g word) ∙ passed test (edges_of items) _ path.1 here

pub members_read : (items : List Item) (stack : List ℕ) → IsTrue (items_match items stack) ↔ IsRead items stack
members_read items stack = (
  λ h. let a = accepts items stack 0 h in (a.to, a.path, a.final),
  λ path. accepted items stack 0 path.0 path.1 path.2,
)
