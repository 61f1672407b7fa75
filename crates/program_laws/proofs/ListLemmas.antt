-- Elements of lists with one more at the end.
use Rattle.std.proofs.Common.{◌≡◌, ◌⊎◌, inl, inr, ℕ, zero, suc, ◌+◌, Bool, true, false, cond, List, [], ◌∷◌, ◌++◌, length, map, None, Some, Option, find, refl, sym, ap, ◌∙◌, subst, arith}
use Rattle.std.specs.Prelude.{slice_get, option_map}
use Rattle.std.specs.List.{list_any}
use Rattle.std.proofs.lemmas.Bool.{or_parts}
use Rattle.std.proofs.lemmas.Option.{same_Some, slice_get-map}
use Rattle.boolean_programs.specs.Lists.{Each}

-- each element has a property, which may name its place
abbrev pub EachAt : {X : Type 0} → (ℕ → X → Type 0) → List X → Type 0
EachAt {X} P xs = (k : ℕ) (x : X) → slice_get xs k ≡ Some x → P k x

module _ {X : Type 0} where
  each_at_from : (P : ℕ → X → Type 0) (base : ℕ) (xs : List X) (y : X) → ((k : ℕ) (x : X) → slice_get xs k ≡ Some x → P (base + k) x) → P (base + length xs) y
      → (k : ℕ) (x : X) → slice_get (xs ++ y ∷ []) k ≡ Some x → P (base + k) x
  each_at_from P base [] y each here zero x e = subst (λ z. P (base + 0) z) (same_Some y x e) here
  each_at_from P base [] y each here (suc k) x e = cc
  each_at_from P base (z ∷ xs) y each here zero x e = each zero x e
  each_at_from P base (z ∷ xs) y each here (suc k) x e =
      let shift : (j : ℕ) → suc base + j ≡ base + suc j = λ j. omega arith in
      subst (λ n. P n x) (shift k)
      (each_at_from P (suc base) xs y (λ j v d. subst (λ n. P n v) (sym (shift j)) (each (suc j) v d)) (subst (λ n. P n y) (sym (shift (length xs))) here) k x e)

  pub each_at_more : (P : ℕ → X → Type 0) (xs : List X) (y : X) → EachAt P xs → P (length xs) y → EachAt P (xs ++ y ∷ [])
  each_at_more P xs y each here k x e =
      let from : (j : ℕ) → 0 + j ≡ j = λ j. omega arith in
      subst (λ n. P n x) (from k)
      (each_at_from P 0 xs y (λ j v d. subst (λ n. P n v) (sym (from j)) (each j v d)) (subst (λ n. P n y) (sym (from (length xs))) here) k x e)

  pub each_more : (P : X → Type 0) (xs : List X) (y : X) → Each P xs → P y → Each P (xs ++ y ∷ [])
  each_more P xs y each here = each_at_more (λ k x. P x) xs y each here

  pub each_none : (P : X → Type 0) → Each P []
  each_none P k x e = cc

  -- the last element
  pub at_last : (xs : List X) (y : X) → slice_get (xs ++ y ∷ []) (length xs) ≡ Some y
  at_last [] y = refl
  at_last (x ∷ xs) y = at_last xs y

  pub each_joined : (P : X → Type 0) (xs ys : List X) → Each P xs → Each P ys → Each P (xs ++ ys)
  each_joined P [] ys h g k y e = g k y e
  each_joined P (x ∷ xs) ys h g zero y e = h zero y e
  each_joined P (x ∷ xs) ys h g (suc k) y e = each_joined P xs ys (λ j z d. h (suc j) z d) g k y e

  pub each_one : (P : X → Type 0) (y : X) → P y → Each P (y ∷ [])
  each_one P y here zero x e = subst P (same_Some y x e) here
  each_one P y here (suc k) x e = cc

  -- an element of the first of two lists joined
  pub get_front : (xs ys : List X) (k : ℕ) (x : X) → slice_get xs k ≡ Some x → slice_get (xs ++ ys) k ≡ Some x
  get_front [] ys k x e = cc
  get_front (z ∷ xs) ys zero x e = e
  get_front (z ∷ xs) ys (suc k) x e = get_front xs ys k x e

  pub get_back : (xs ys : List X) (k : ℕ) (x : X) → slice_get ys k ≡ Some x → (j : ℕ) × (slice_get (xs ++ ys) j ≡ Some x)
  get_back [] ys k x e = (k, e)
  get_back (z ∷ xs) ys k x e = let more = get_back xs ys k x e in (suc more.0, more.1)

  pub get_joined : (xs ys : List X) (k : ℕ) (x : X) → slice_get (xs ++ ys) k ≡ Some x → (slice_get xs k ≡ Some x) ⊎ ((j : ℕ) × (slice_get ys j ≡ Some x))
  get_joined [] ys k x e = inr (k, e)
  get_joined (z ∷ xs) ys zero x e = inl e
  get_joined (z ∷ xs) ys (suc k) x e = get_joined xs ys k x e

  -- what is found is an element that passes
  pub found : (test : X → Bool) (xs : List X) (x : X) → find test xs ≡ Some x → (k : ℕ) × (slice_get xs k ≡ Some x) × (test x ≡ true)
  found test [] x e = cc
  found test (y ∷ ys) x e = go (test y) refl e (found test ys x)
    where
      go : (t : Bool) → test y ≡ t → cond t (Some y) (find test ys) ≡ Some x → (find test ys ≡ Some x → (k : ℕ) × (slice_get ys k ≡ Some x) × (test x ≡ true)) → (k : ℕ) × (slice_get (y ∷ ys) k ≡ Some x) × (test x ≡ true)
      go true h d more = let same = same_Some y x d in (0, d, subst (λ z. test z ≡ true) same h)
      go false h d more = let k = more d in (suc k.0, k.1, k.2)

  -- no element passes
  pub none_passes : (test : X → Bool) (xs : List X) (k : ℕ) (x : X) → list_any test xs ≡ false → slice_get xs k ≡ Some x → test x ≡ false
  none_passes test [] k x h e = cc
  none_passes test (y ∷ ys) zero x h e = subst (λ z. test z ≡ false) (same_Some y x e) (or_parts (test y) (list_any test ys) h).0
  none_passes test (y ∷ ys) (suc k) x h e = none_passes test ys k x (or_parts (test y) (list_any test ys) h).1 e

module _ {X Y : Type 0} (f : X → Y) where
  mapped : (o : Option X) (y : Y) → option_map f o ≡ Some y → (x : X) × (o ≡ Some x) × (f x ≡ y)
  mapped None y e = cc
  mapped (Some x) y e = (x, refl, same_Some (f x) y e)

  pub get_mapped : (xs : List X) (k : ℕ) (y : Y) → slice_get (map f xs) k ≡ Some y → (x : X) × (slice_get xs k ≡ Some x) × (f x ≡ y)
  get_mapped xs k y e = mapped (slice_get xs k) y (sym (slice_get-map f xs k) ∙ e)

  pub get_map : (xs : List X) (k : ℕ) (x : X) → slice_get xs k ≡ Some x → slice_get (map f xs) k ≡ Some (f x)
  get_map xs k x e = slice_get-map f xs k ∙ ap (option_map f) e
