-- What is marked once a number joins those that wait, or leaves them.
use Rattle.std.proofs.Common.{◌≡◌, ℕ, ◌<◌, Bool, true, false, List, [], ◌∷◌, ◌++◌, length, get_or, set, refl, sym, ap, ◌∙◌, inl, inr}
use Rattle.std.specs.Prelude.{◌||◌, nat_eq}
use Rattle.std.proofs.lemmas.Bool.{cases_eq, cases_Bool, eq-eqb, eqb-true, false_from_ne_true}
use Rattle.std.proofs.lemmas.List.{get_or-set_same, get_or-set_other}
use Rattle.std.proofs.lemmas.List.Folds.{list_any-append}
use Rattle.saturation_core.specs.private.Numbers.{has_number, NumbersOnce, AreMarked}

other_number : (j k : ℕ) → (j ≡ k → ⊥) → nat_eq j k ≡ false
other_number j k differs = false_from_ne_true (nat_eq j k) (λ e. differs (eqb-true j k e))

-- a number more
one_more : (j k : ℕ) (q : List ℕ) → has_number j (q ++ k ∷ []) ≡ (has_number j q || (nat_eq k j || false))
one_more j k q = list_any-append (λ n. nat_eq n j) q (k ∷ [])

last_there : (k : ℕ) (q : List ℕ) → has_number k (q ++ k ∷ []) ≡ true
last_there k [] = ap (λ b. b || false) (eq-eqb k k refl)
last_there k (n ∷ q) = elim (nat_eq n k) as (λ b. (b || has_number k (q ++ k ∷ [])) ≡ true) [
  | true ↦ refl
  | false ↦ last_there k q
]

or_none : (b : Bool) → (b || (false || false)) ≡ b
or_none true = refl
or_none false = refl

others_there : (j k : ℕ) (q : List ℕ) → (j ≡ k → ⊥) → has_number j (q ++ k ∷ []) ≡ has_number j q
others_there j k q differs =
    one_more j k q ∙ ap (λ b. has_number j q || (b || false)) (other_number k j (λ e. differs (sym e))) ∙ or_none (has_number j q)

once_push : (k : ℕ) (q : List ℕ) → NumbersOnce q → has_number k q ≡ false → NumbersOnce (q ++ k ∷ [])
once_push k [] once absent = (refl, tt)
once_push k (n ∷ q) once absent = elim (cases_Bool (nat_eq n k)) [
  | inl e ↦ let f : true ≡ false = sym (ap (λ b. b || has_number k q) e) ∙ absent in cc
  | inr e ↦
      let rest : has_number k q ≡ false = sym (ap (λ b. b || has_number k q) e) ∙ absent in
      let differs : n ≡ k → ⊥ = λ is. let f : true ≡ false = sym (eq-eqb n k is) ∙ e in cc in
      (others_there n k q differs ∙ once.0, once_push k q once.1 rest)
]

-- A number that did not wait goes last.
pub marked_push : (k : ℕ) (q : List ℕ) (waits : List Bool) → AreMarked q waits → k < length waits → has_number k q ≡ false → AreMarked (q ++ k ∷ []) (set waits k true)
marked_push k q waits before within absent = record {
  marks = λ j. elim (cases_eq j k) [
    | inl is ↦ ap (λ i. get_or (set waits k true) i false) is ∙ get_or-set_same waits k true false within ∙ sym (last_there k q) ∙ ap (λ i. has_number i (q ++ k ∷ [])) (sym is)
    | inr differs ↦ get_or-set_other waits k j true false differs ∙ before.marks j ∙ sym (others_there j k q differs)
  ];
  once = once_push k q before.once absent;
}
