-- Elements of lists, and the lists before and behind them.
use Rattle.std.proofs.Common.{◌≡◌, ℕ, zero, suc, ◌<◌, ◌≤◌, List, [], ◌∷◌, ◌++◌, length, take, drop, reverse, get_or, refl, sym, ap, ◌∙◌, arith}
use Rattle.std.specs.Prelude.{None, Some, slice_get}
use Rattle.std.proofs.lemmas.Option.{same_Some}
use Rattle.std.proofs.lemmas.List.{reverse-append}

module _ {X : Type 0} where
  pub drop_at : (xs : List X) (j : ℕ) (x : X) → slice_get xs j ≡ Some x → drop j xs ≡ x ∷ drop (suc j) xs
  drop_at [] j x e = cc
  drop_at (y ∷ ys) zero x e = ap (λ z. z ∷ ys) (same_Some y x e)
  drop_at (y ∷ ys) (suc j) x e = drop_at ys j x e

  pub take_at : (xs : List X) (j : ℕ) (x : X) → slice_get xs j ≡ Some x → take (suc j) xs ≡ take j xs ++ x ∷ []
  take_at [] j x e = cc
  take_at (y ∷ ys) zero x e = ap (λ z. z ∷ []) (same_Some y x e)
  take_at (y ∷ ys) (suc j) x e = ap (λ zs. y ∷ zs) (take_at ys j x e)

  pub reverse_more : (xs : List X) (x : X) → reverse (xs ++ x ∷ []) ≡ x ∷ reverse xs
  reverse_more xs x = reverse-append xs (x ∷ [])

  pub reverse_at : (xs : List X) (j : ℕ) (x : X) → slice_get xs j ≡ Some x → reverse (take (suc j) xs) ≡ x ∷ reverse (take j xs)
  reverse_at xs j x e = ap (λ zs. reverse zs) (take_at xs j x e) ∙ reverse_more (take j xs) x

  -- an element by what an index gives
  pub get_is : (xs : List X) (k : ℕ) (x : X) → k < length xs → x ≡ get_or xs k x → slice_get xs k ≡ Some x
  get_is [] k x h e = absurd (omega arith)
  get_is (y ∷ ys) zero x h e = ap (λ z. Some z) (sym e)
  get_is (y ∷ ys) (suc k) x h e = get_is ys k x (omega arith) e

  pub drop_none : (xs : List X) (j : ℕ) → slice_get xs j ≡ None → drop j xs ≡ []
  drop_none [] zero e = refl
  drop_none [] (suc j) e = refl
  drop_none (x ∷ xs) zero e = cc
  drop_none (x ∷ xs) (suc j) e = drop_none xs j e

  pub drop_past : (xs : List X) (j : ℕ) → length xs ≤ j → drop j xs ≡ []
  drop_past [] zero h = refl
  drop_past [] (suc j) h = refl
  drop_past (x ∷ xs) zero h = absurd (omega arith)
  drop_past (x ∷ xs) (suc j) h = drop_past xs j (omega arith)

  pub get_below : (xs : List X) (j : ℕ) (x : X) → slice_get xs j ≡ Some x → j < length xs
  get_below [] j x e = cc
  get_below (y ∷ ys) zero x e = omega arith
  get_below (y ∷ ys) (suc j) x e = let more = get_below ys j x e in omega arith
