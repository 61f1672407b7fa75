-- Where numbers stand in a list.
use Rattle.std.proofs.Common.{◌≡◌, ℕ, suc, ◌+◌, ◌<◌, true, false, List, [], ◌∷◌, ◌++◌, length, get_or, refl, sym, ap, ◌∙◌, inl, inr, arith}
use Rattle.std.specs.Prelude.{Option, None, Some, is_some, option_map, cond, nat_eq}
use Rattle.std.proofs.lemmas.Bool.{cond-true, cond-false, cases_Bool, eqb-true, eq-eqb, false_from_ne_true}
use Rattle.std.proofs.lemmas.Option.{same_Some}
use Rattle.witness_graph.specs.Order.{place_of, is_listed}

abbrev next : Option ℕ → Option ℕ
next o = option_map (λ i. i + 1) o

pub eqb_other : (x k : ℕ) → (x ≡ k → ⊥) → nat_eq x k ≡ false
eqb_other x k differs = false_from_ne_true (nat_eq x k) (λ e. differs (eqb-true x k e))

-- what stood somewhere stands there
pub place_push_old : (k : ℕ) (xs ys : List ℕ) (i : ℕ) → place_of k xs ≡ Some i → place_of k (xs ++ ys) ≡ Some i
place_push_old k [] ys i e = cc
place_push_old k (x ∷ xs) ys i e = elim (nat_eq x k) as (λ b. cond b (Some 0) (next (place_of k xs)) ≡ Some i → cond b (Some 0) (next (place_of k (xs ++ ys))) ≡ Some i) [
  | true ↦ λ h. h
  | false ↦ λ h. elim (place_of k xs) as (λ o. place_of k xs ≡ o → next o ≡ Some i → next (place_of k (xs ++ ys)) ≡ Some i) [
    | None ↦ λ was f. cc
    | Some j ↦ λ was f. ap next (place_push_old k xs ys j was) ∙ f
  ] refl h
] e

pub place_push_new : (k : ℕ) (xs : List ℕ) → place_of k xs ≡ None → place_of k (xs ++ k ∷ []) ≡ Some (length xs)
place_push_new k [] e = cond-true (nat_eq k k) (Some 0) None (eq-eqb k k refl)
place_push_new k (x ∷ xs) e = elim (nat_eq x k) as (λ b. cond b (Some 0) (next (place_of k xs)) ≡ None → cond b (Some 0) (next (place_of k (xs ++ k ∷ []))) ≡ Some (suc (length xs))) [
  | true ↦ λ h. cc
  | false ↦ λ h. elim (place_of k xs) as (λ o. place_of k xs ≡ o → next o ≡ None → next (place_of k (xs ++ k ∷ [])) ≡ Some (suc (length xs))) [
    | None ↦ λ was f. ap next (place_push_new k xs was) ∙ ap Some (omega arith)
    | Some j ↦ λ was f. cc
  ] refl h
] e

pub place_push_other : (k y : ℕ) (xs : List ℕ) → (y ≡ k → ⊥) → place_of k (xs ++ y ∷ []) ≡ place_of k xs
place_push_other k y [] differs = cond-false (nat_eq y k) (Some 0) None (eqb_other y k differs)
place_push_other k y (x ∷ xs) differs = ap (λ o. cond (nat_eq x k) (Some 0) (next o)) (place_push_other k y xs differs)

pub place_within : (k : ℕ) (xs : List ℕ) (i d : ℕ) → place_of k xs ≡ Some i → (i < length xs) × (get_or xs i d ≡ k)
place_within k [] i d e = cc
place_within k (x ∷ xs) i d e = elim (cases_Bool (nat_eq x k)) [
  | inl is ↦
      let first : 0 ≡ i = same_Some 0 i (sym (cond-true (nat_eq x k) (Some 0) (next (place_of k xs)) is) ∙ e) in
      (omega arith, ap (λ j. get_or (x ∷ xs) j d) (sym first) ∙ eqb-true x k is)
  | inr differs ↦ elim (place_of k xs) as (λ o. place_of k xs ≡ o → next o ≡ Some i → (i < length (x ∷ xs)) × (get_or (x ∷ xs) i d ≡ k)) [
    | None ↦ λ was f. cc
    | Some j ↦ λ was f.
        let later : suc j ≡ i = let g : j + 1 ≡ i = same_Some (j + 1) i f in omega arith in
        let before = place_within k xs j d was in
        (omega (arith, before.0), ap (λ m. get_or (x ∷ xs) m d) (sym later) ∙ before.1)
  ] refl (sym (cond-false (nat_eq x k) (Some 0) (next (place_of k xs)) differs) ∙ e)
]

pub some_is : {X : Type 0} (o : Option X) → is_some o ≡ true → (x : X) × (o ≡ Some x)
some_is None e = cc
some_is (Some x) e = (x, refl)

pub none_is : {X : Type 0} (o : Option X) → is_some o ≡ false → o ≡ None
none_is None e = refl
none_is (Some x) e = cc

pub listed_more : (xs ys : List ℕ) (k : ℕ) → is_listed xs k ≡ true → is_listed (xs ++ ys) k ≡ true
listed_more xs ys k e = let at = some_is (place_of k xs) e in ap is_some (place_push_old k xs ys at.0 at.1)

pub listed_new : (xs : List ℕ) (k : ℕ) → is_listed (xs ++ k ∷ []) k ≡ true
listed_new xs k = elim (cases_Bool (is_listed xs k)) [
  | inl e ↦ listed_more xs (k ∷ []) k e
  | inr e ↦ ap is_some (place_push_new k xs (none_is (place_of k xs) e))
]
