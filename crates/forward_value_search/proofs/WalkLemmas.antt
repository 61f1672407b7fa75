-- A walk along the entries of a row, of which more may come meanwhile.
use Rattle.std.proofs.Common.{◌≡◌, inl, inr, ℕ, zero, suc, ◌<◌, ◌+◌, ◌-◌, Bool, true, false, List, [], ◌∷◌, length, refl, sym, ap, ◌∙◌, arith}
use Rattle.std.specs.Prelude.{Option, Some, None, slice_get}
use Rattle.std.proofs.lemmas.Bool.{cases_lt}
use Rattle.std.proofs.lemmas.Option.{same_Some, slice_get_within}
use Rattle.key_rows.specs.Rows.{index_where, index_from}
use Rattle.weighted_automata.specs.declared.place.Place.{Place}
use Rattle.pushdown_rules.proofs.CallerLemmas.{index_found, index_from_start, IsFound}
use Rattle.weight_tables.specs.Entries.{TableEntry}
use Rattle.weight_tables.proofs.CallerLemmas.{none_from, before_from, to_go}
use Rattle.forward_value_search.specs.Search.{StandsAt, KeepsNumbers}

abbrev pub by_place : {W : Type 0} → (Place → Bool) → TableEntry W → Bool
by_place test e = test e.place

-- The walk stands where the next of the row stands, and all before it hold.
pub record IsEntryWalk {W : Type 0} (test : Place → Bool) (es : List (TableEntry W)) (at : Option ℕ) (P : Place → Type 0) : Type 0 where
  pub from : ℕ
  pub stands : at ≡ index_from (by_place test) from es
  pub met : (t : ℕ) (x : Place) → StandsAt t x es → test x ≡ true → t < from → P x

pub some_at : {X : Type 0} (xs : List X) (k : ℕ) → k < length xs → (x : X) × (slice_get xs k ≡ Some x)
some_at [] k low = absurd (omega (arith, low))
some_at (x ∷ xs) zero low = (x, refl)
some_at (x ∷ xs) (suc k) low = some_at xs k (omega (arith, low))

module _ {W : Type 0} (test : Place → Bool) (es : List (TableEntry W)) where
  pub entries_start : (at : Option ℕ) (P : Place → Type 0) → at ≡ index_where (by_place test) es → IsEntryWalk test es at P
  entries_start at P is = record { from = 0; stands = is ∙ index_from_start (by_place test) es; met = λ t x there passes low. absurd (omega (arith, low)) }

  module _ (at : Option ℕ) (P : Place → Type 0) (walk : IsEntryWalk test es at P) where
    pub entries_at : (t : ℕ) → at ≡ Some t → IsFound (by_place test) es t
    entries_at t is = (index_found (by_place test) walk.from es t (sym walk.stands ∙ is)).0

    pub entries_within : (t : ℕ) → at ≡ Some t → t < length es
    entries_within t is = let f = entries_at t is in slice_get_within es t f.item f.there

    passes_at : (t : ℕ) (x : Place) (e : TableEntry W) → e.place ≡ x → test x ≡ true → by_place test e ≡ true
    passes_at t x e is passes = ap test is ∙ passes

    pub entries_go_on : (t : ℕ) → at ≡ Some t → (es' : List (TableEntry W)) → KeepsNumbers es es' → (next : Option ℕ) → next ≡ index_from (by_place test) (t + 1) es' → (Q : Place → Type 0)
        → ((x : Place) → test x ≡ true → P x → Q x) → ((x : Place) → StandsAt t x es → Q x) → IsEntryWalk test es' next Q
    entries_go_on t is es' keep next goes Q later here = record {
      from = t + 1;
      stands = goes;
      met = λ j x there passes low.
          let within = entries_within t is in
          let old = some_at es j (omega (arith, within, low)) in
          let e = old.0 in
          let new = keep j e.place (e, old.1, refl) in
          let same : e.place ≡ x = sym new.2 ∙ ap (λ (d : TableEntry W). d.place) (same_Some new.0 there.0 (sym new.1 ∙ there.1)) ∙ there.2 in
          elim (cases_lt j walk.from) [
            | inl before ↦ later x passes (walk.met j x (e, old.1, same) passes before)
            | inr behind ↦ elim (cases_lt j t) [
              | inl between ↦
                  let no : by_place test e ≡ false = before_from (by_place test) es walk.from t j e (sym walk.stands ∙ is) behind between old.1 in
                  let yes = passes_at j x e same passes in
                  let both : true ≡ false = sym yes ∙ no in cc
              | inr last ↦
                  let equal : j ≡ t = omega (arith, low, last) in
                  here x (e, ap (slice_get es) (sym equal) ∙ old.1, same)
            ]
          ];
    }

    pub entries_end : at ≡ None → (t : ℕ) (x : Place) → StandsAt t x es → test x ≡ true → P x
    entries_end is t x there passes = elim (cases_lt t walk.from) [
      | inl before ↦ walk.met t x there passes before
      | inr behind ↦
          let no : by_place test there.0 ≡ false = none_from (by_place test) es walk.from t there.0 (sym walk.stands ∙ is) behind there.1 in
          let yes = passes_at t x there.0 there.2 passes in
          let both : true ≡ false = sym yes ∙ no in cc
    ]

-- numbers rise along a row
pub entries_smaller : {X : Type 0} (p : X → Bool) (es : List X) (n t : ℕ) (next : Option ℕ) → t < n → next ≡ index_from p (t + 1) es → to_go n next < to_go n (Some t)
entries_smaller p es n t next low goes = elim next as (λ o. o ≡ index_from p (t + 1) es → to_go n o < n - t) [
  | None ↦ λ e. omega (arith, low)
  | Some m ↦ λ e. let more = (index_found p (t + 1) es m (sym e)).1 in omega (arith, low, more)
] goes
