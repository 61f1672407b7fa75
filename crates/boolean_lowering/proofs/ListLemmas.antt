-- Elements of lists, and lists that are mapped.
use Rattle.std.proofs.Common.{◌≡◌, ℕ, zero, suc, ◌+◌, ◌<◌, ◌≤◌, List, [], ◌∷◌, ◌++◌, length, take, drop, map, get_or, refl, sym, ap, ◌∙◌, subst, arith}
use Rattle.std.specs.Prelude.{Some, slice_get}
use Rattle.std.proofs.lemmas.Option.{same_Some}
use Rattle.std.proofs.lemmas.List.{map-append}

module _ {X : Type 0} where
  pub drop_at : (xs : List X) (j : ℕ) (x : X) → slice_get xs j ≡ Some x → drop j xs ≡ x ∷ drop (suc j) xs
  drop_at [] j x e = cc
  drop_at (y ∷ ys) zero x e = ap (λ z. z ∷ ys) (same_Some y x e)
  drop_at (y ∷ ys) (suc j) x e = drop_at ys j x e

  pub take_at : (xs : List X) (j : ℕ) (x : X) → slice_get xs j ≡ Some x → take (suc j) xs ≡ take j xs ++ x ∷ []
  take_at [] j x e = cc
  take_at (y ∷ ys) zero x e = ap (λ z. z ∷ []) (same_Some y x e)
  take_at (y ∷ ys) (suc j) x e = ap (λ zs. y ∷ zs) (take_at ys j x e)

  -- an element by what an index gives
  pub get_is : (xs : List X) (k : ℕ) (x : X) → k < length xs → x ≡ get_or xs k x → slice_get xs k ≡ Some x
  get_is [] k x h e = absurd (omega arith)
  get_is (y ∷ ys) zero x h e = ap (λ z. Some z) (sym e)
  get_is (y ∷ ys) (suc k) x h e = get_is ys k x (omega arith) e

  -- an element behind a list
  pub get_behind : (xs ys : List X) (k : ℕ) (x : X) → slice_get ys k ≡ Some x → slice_get (xs ++ ys) (length xs + k) ≡ Some x
  get_behind [] ys k x e = subst (λ m. slice_get ys m ≡ Some x) (let f : k ≡ 0 + k = omega arith in f) e
  get_behind (z ∷ xs) ys k x e = subst (λ m. slice_get (z ∷ (xs ++ ys)) m ≡ Some x) (let f : suc (length xs + k) ≡ suc (length xs) + k = omega arith in f) (get_behind xs ys k x e)

  -- the first element of what is left
  pub first_left : (xs ys : List X) (j : ℕ) (y : X) → drop j xs ≡ y ∷ ys → slice_get xs j ≡ Some y
  first_left [] ys zero y e = cc
  first_left [] ys (suc j) y e = cc
  first_left (x ∷ xs) ys zero y e = cc
  first_left (x ∷ xs) ys (suc j) y e = first_left xs ys j y e

  pub others_left : (xs ys : List X) (j : ℕ) (y : X) → drop j xs ≡ y ∷ ys → drop (suc j) xs ≡ ys
  others_left xs ys j y e = let at = drop_at xs j y (first_left xs ys j y e) in cc

  pub get_below : (xs : List X) (j : ℕ) (x : X) → slice_get xs j ≡ Some x → j < length xs
  get_below [] j x e = cc
  get_below (y ∷ ys) zero x e = omega arith
  get_below (y ∷ ys) (suc j) x e = let more = get_below ys j x e in omega arith

  pub drop_all : (xs : List X) (j : ℕ) → length xs ≤ j → drop j xs ≡ []
  drop_all [] zero h = refl
  drop_all [] (suc j) h = refl
  drop_all (x ∷ xs) zero h = absurd (omega arith)
  drop_all (x ∷ xs) (suc j) h = drop_all xs j (omega arith)

  pub drop_zero : (xs : List X) → drop 0 xs ≡ xs
  drop_zero [] = refl
  drop_zero (x ∷ xs) = refl

-- the first elements of a list that is mapped twice, with one more
pub mapped_take : {X Y Z : Type 0} (f : X → Y) (g : Y → Z) (xs : List X) (k : ℕ) (x : X) → slice_get xs k ≡ Some x → map g (map f (take (k + 1) xs)) ≡ map g (map f (take k xs)) ++ g (f x) ∷ []
mapped_take {X} {Y} {Z} f g xs k x e =
    ap (λ n. map g (map f (take n xs))) (let next : k + 1 ≡ suc k = omega arith in next)
    ∙ ap (λ (ys : List X). map g (map f ys)) (take_at xs k x e)
    ∙ ap (λ (ys : List Y). map g ys) (map-append f (take k xs) (x ∷ []))
    ∙ map-append g (map f (take k xs)) (f x ∷ [])
