-- Whether a number is listed.
use Rattle.std.proofs.Common.{◌≡◌, ◌⊎◌, inl, inr, ℕ, ◌+◌, Bool, true, false, cond, ◌||◌, List, [], ◌∷◌, refl, sym, ap, ◌∙◌}
use Rattle.std.specs.Prelude.{Option, None, Some, is_some, option_map, nat_eq}
use Rattle.std.specs.List.{list_any}
use Rattle.std.specs.Cmp.{nat_eq_equiv}
use Rattle.std.proofs.lemmas.Bool.{eqb-true, eq-eqb, cond-true}
use Rattle.witness_graph.specs.Order.{place_of, is_listed}

abbrev next : Option ℕ → Option ℕ
next o = option_map (λ i. i + 1) o

some_next : (o : Option ℕ) → is_some (next o) ≡ is_some o
some_next None = refl
some_next (Some i) = refl

pub listed_first : (x : ℕ) (xs : List ℕ) → is_listed (x ∷ xs) x ≡ true
listed_first x xs = ap is_some (cond-true (nat_eq x x) (Some 0) (next (place_of x xs)) (eq-eqb x x refl))

pub listed_more : (x : ℕ) (xs : List ℕ) (k : ℕ) → is_listed xs k ≡ true → is_listed (x ∷ xs) k ≡ true
listed_more x xs k e = go (nat_eq x k)
  where
    go : (b : Bool) → is_some (cond b (Some 0) (next (place_of k xs))) ≡ true
    go true = refl
    go false = some_next (place_of k xs) ∙ e

pub first_or_more : (x : ℕ) (xs : List ℕ) (k : ℕ) → is_listed (x ∷ xs) k ≡ true → (x ≡ k) ⊎ (is_listed xs k ≡ true)
first_or_more x xs k = go (nat_eq x k) refl
  where
    go : (b : Bool) → nat_eq x k ≡ b → is_some (cond b (Some 0) (next (place_of k xs))) ≡ true → (x ≡ k) ⊎ (is_listed xs k ≡ true)
    go true is e = inl (eqb-true x k is)
    go false differs e = inr (sym (some_next (place_of k xs)) ∙ e)

-- the test of listing is that of the keys of a set
pub listed_any : (k : ℕ) (xs : List ℕ) → is_listed xs k ≡ list_any (nat_eq k) xs
listed_any k [] = refl
listed_any k (x ∷ xs) = go (nat_eq x k) (listed_any k xs) ∙ ap (λ b. b || list_any (nat_eq k) xs) (nat_eq_equiv.symm x k)
  where
    go : (b : Bool) → is_listed xs k ≡ list_any (nat_eq k) xs → is_some (cond b (Some 0) (next (place_of k xs))) ≡ (b || list_any (nat_eq k) xs)
    go true more = refl
    go false more = some_next (place_of k xs) ∙ more
