-- Elements of lists, and the lists before and behind them.
use Rattle.std.proofs.Common.{◌≡◌, ℕ, zero, suc, ◌<◌, List, [], ◌∷◌, ◌++◌, length, take, drop, reverse, get_or, sym, ap, ◌∙◌, arith}
use Rattle.std.specs.Prelude.{Some, slice_get}
use Rattle.std.proofs.lemmas.Option.{same_Some}
use Rattle.std.proofs.lemmas.List.{reverse-append}

module _ {X : Type 0} where
  pub drop_at : (xs : List X) (j : ℕ) (x : X) → slice_get xs j ≡ Some x → drop j xs ≡ x ∷ drop (suc j) xs
  drop_at [] j x e = cc
  drop_at (y ∷ ys) zero x e = ap (λ z. z ∷ ys) (same_Some y x e)
  drop_at (y ∷ ys) (suc j) x e = drop_at ys j x e

  pub take_at : (xs : List X) (j : ℕ) (x : X) → slice_get xs j ≡ Some x → take (suc j) xs ≡ take j xs ++ x ∷ []
  take_at [] j x e = cc
  take_at (y ∷ ys) zero x e = ap (λ z. z ∷ []) (same_Some y x e)
  take_at (y ∷ ys) (suc j) x e = ap (λ zs. y ∷ zs) (take_at ys j x e)

  pub reverse_more : (xs : List X) (x : X) → reverse (xs ++ x ∷ []) ≡ x ∷ reverse xs
  reverse_more xs x = reverse-append xs (x ∷ [])

  pub reverse_at : (xs : List X) (j : ℕ) (x : X) → slice_get xs j ≡ Some x → reverse (take (suc j) xs) ≡ x ∷ reverse (take j xs)
  reverse_at xs j x e = ap (λ zs. reverse zs) (take_at xs j x e) ∙ reverse_more (take j xs) x

  -- an element by what an index gives
  pub get_is : (xs : List X) (k : ℕ) (x : X) → k < length xs → x ≡ get_or xs k x → slice_get xs k ≡ Some x
  get_is [] k x h e = absurd (omega arith)
  get_is (y ∷ ys) zero x h e = ap (λ z. Some z) (sym e)
  get_is (y ∷ ys) (suc k) x h e = get_is ys k x (omega arith) e
