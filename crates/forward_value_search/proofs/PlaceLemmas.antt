-- The places of a row, and of the ends of a callee.
use Rattle.std.proofs.Common.{◌≡◌, ◌⊎◌, inl, inr, ℕ, Bool, true, List, refl, sym, ap, ap₂, ◌∙◌}
use Rattle.std.specs.Prelude.{None, Some, nat_eq, ◌&&◌}
use Rattle.std.proofs.lemmas.Bool.{and_parts, and_from, eqb-true, eq-eqb}
use Rattle.pushdown_rules.proofs.CallerLemmas.{index_found, index_from_start}
use Rattle.weighted_automata.specs.declared.place.Label.{Label}
use Rattle.weighted_automata.specs.declared.place.Label.TheVariants.{Symbol, Empty}
use Rattle.weighted_automata.specs.declared.place.Place.{Place}
use Rattle.weighted_automata.specs.Places.{same_label, same_place}
use Rattle.weight_tables.specs.Entries.{TableEntry, index_at}
use Rattle.weight_tables.proofs.CallerLemmas.{index_place}
use Rattle.forward_value_search.specs.Places.{arrow}
use Rattle.forward_value_search.specs.Search.{StandsAt}

-- the place goes from a control over a symbol
abbrev pub in_row : ℕ → ℕ → Place → Bool
in_row control g x = nat_eq x.from control && same_label x.label (Symbol g)

-- the place goes over nothing to a number
abbrev pub is_end : ℕ → Place → Bool
is_end n x = nat_eq x.to n && same_label x.label Empty

label_is : (a b : Label) → same_label a b ≡ true → a ≡ b
label_is (Symbol g) (Symbol h) e = ap Symbol (eqb-true g h e)
label_is (Symbol g) Empty e = cc
label_is Empty (Symbol h) e = cc
label_is Empty Empty e = refl

pub row_is : (control g : ℕ) (x : Place) → in_row control g x ≡ true → x ≡ arrow control (Symbol g) x.to
row_is control g x e =
    let tests = and_parts (nat_eq x.from control) (same_label x.label (Symbol g)) e in
    ap₂ (λ c l. arrow c l x.to) (eqb-true x.from control tests.0) (label_is x.label (Symbol g) tests.1)

pub end_is : (n : ℕ) (x : Place) → is_end n x ≡ true → x ≡ arrow x.from Empty n
end_is n x e =
    let tests = and_parts (nat_eq x.to n) (same_label x.label Empty) e in
    ap₂ (λ m l. arrow x.from l m) (eqb-true x.to n tests.0) (label_is x.label Empty tests.1)

pub row_itself : (control g n : ℕ) → in_row control g (arrow control (Symbol g) n) ≡ true
row_itself control g n = and_from (nat_eq control control) (nat_eq g g) (eq-eqb control control refl) (eq-eqb g g refl)

pub end_itself : (q n : ℕ) → is_end n (arrow q Empty n) ≡ true
end_itself q n = and_from (nat_eq n n) true (eq-eqb n n refl) refl

-- an entry stands at a place, or none does
pub stands_or : {W : Type 0} (es : List (TableEntry W)) (x : Place) → ((t : ℕ) × StandsAt t x es) ⊎ (index_at x es ≡ None)
stands_or {W = W} es x = elim (index_at x es) as (λ o. index_at x es ≡ o → ((t : ℕ) × StandsAt t x es) ⊎ (o ≡ None)) [
  | None ↦ λ _. inr refl
  | Some t ↦ λ is.
      let at = (index_found (λ (e : TableEntry W). same_place e.place x) 0 es t (sym (index_from_start (λ (e : TableEntry W). same_place e.place x) es) ∙ is)).0 in
      inl (t, (at.item, at.there, index_place x es t at.item is at.there))
] refl
