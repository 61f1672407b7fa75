-- What is marked once a number joins those that wait, or leaves them.
use Rattle.std.proofs.Common.{◌≡◌, ℕ, ◌<◌, zero, suc, Bool, true, false, List, [], ◌∷◌, ◌++◌, length, get_or, set, refl, sym, ap, ◌∙◌, inl, inr, arith}
use Rattle.std.specs.Prelude.{◌||◌, nat_eq, Some, slice_get}
use Rattle.std.proofs.lemmas.Bool.{cases_eq, cases_Bool, eq-eqb, eqb-true, false_from_ne_true}
use Rattle.std.proofs.lemmas.List.{get_or-set_same, get_or-set_other}
use Rattle.std.proofs.lemmas.List.Folds.{list_any-append}
use Rattle.weight_tables.specs.private.Marks.{has_number, NumbersOnce, AreMarked}

other_number : (j k : ℕ) → (j ≡ k → ⊥) → nat_eq j k ≡ false
other_number j k differs = false_from_ne_true (nat_eq j k) (λ e. differs (eqb-true j k e))

-- a number more
one_more : (j k : ℕ) (q : List ℕ) → has_number j (q ++ k ∷ []) ≡ (has_number j q || (nat_eq k j || false))
one_more j k q = list_any-append (λ n. nat_eq n j) q (k ∷ [])

last_there : (k : ℕ) (q : List ℕ) → has_number k (q ++ k ∷ []) ≡ true
last_there k [] = ap (λ b. b || false) (eq-eqb k k refl)
last_there k (n ∷ q) = elim (nat_eq n k) as (λ b. (b || has_number k (q ++ k ∷ [])) ≡ true) [
  | true ↦ refl
  | false ↦ last_there k q
]

or_none : (b : Bool) → (b || (false || false)) ≡ b
or_none true = refl
or_none false = refl

others_there : (j k : ℕ) (q : List ℕ) → (j ≡ k → ⊥) → has_number j (q ++ k ∷ []) ≡ has_number j q
others_there j k q differs =
    one_more j k q ∙ ap (λ b. has_number j q || (b || false)) (other_number k j (λ e. differs (sym e))) ∙ or_none (has_number j q)

once_push : (k : ℕ) (q : List ℕ) → NumbersOnce q → has_number k q ≡ false → NumbersOnce (q ++ k ∷ [])
once_push k [] once absent = (refl, tt)
once_push k (n ∷ q) once absent = elim (cases_Bool (nat_eq n k)) [
  | inl e ↦ let f : true ≡ false = sym (ap (λ b. b || has_number k q) e) ∙ absent in cc
  | inr e ↦
      let rest : has_number k q ≡ false = sym (ap (λ b. b || has_number k q) e) ∙ absent in
      let differs : n ≡ k → ⊥ = λ is. let f : true ≡ false = sym (eq-eqb n k is) ∙ e in cc in
      (others_there n k q differs ∙ once.0, once_push k q once.1 rest)
]

-- A number that did not wait goes last.
pub marked_push : (k : ℕ) (q : List ℕ) (waits : List Bool) → AreMarked q waits → k < length waits → has_number k q ≡ false → AreMarked (q ++ k ∷ []) (set waits k true)
marked_push k q waits before within absent = record {
  marks = λ j. elim (cases_eq j k) [
    | inl is ↦ ap (λ i. get_or (set waits k true) i false) is ∙ get_or-set_same waits k true false within ∙ sym (last_there k q) ∙ ap (λ i. has_number i (q ++ k ∷ [])) (sym is)
    | inr differs ↦ get_or-set_other waits k j true false differs ∙ before.marks j ∙ sym (others_there j k q differs)
  ];
  once = once_push k q before.once absent;
}

-- a mark that is there is that of a number
pub marked_there : (waits : List Bool) (k : ℕ) → get_or waits k false ≡ true → slice_get waits k ≡ Some true
marked_there [] k e = cc
marked_there (b ∷ waits) zero e = ap Some e
marked_there (b ∷ waits) (suc k) e = marked_there waits k e

pub marked_within : (waits : List Bool) (k : ℕ) → get_or waits k false ≡ true → k < length waits
marked_within [] k e = cc
marked_within (b ∷ waits) zero e = omega arith
marked_within (b ∷ waits) (suc k) e = let rest = marked_within waits k e in omega (arith, rest)

-- The number that waits longest is marked, and leaves.
module _ (k : ℕ) (q : List ℕ) (waits : List Bool) (before : AreMarked (k ∷ q) waits) where
  pub first_marked : get_or waits k false ≡ true
  first_marked = before.marks k ∙ ap (λ b. b || has_number k q) (eq-eqb k k refl)

  pub marked_pop : AreMarked q (set waits k false)
  marked_pop = record {
    marks = λ j. elim (cases_eq j k) [
      | inl is ↦ ap (λ i. get_or (set waits k false) i false) is ∙ get_or-set_same waits k false false (marked_within waits k first_marked) ∙ sym before.once.0 ∙ ap (λ i. has_number i q) (sym is)
      | inr differs ↦ get_or-set_other waits k j false false differs ∙ before.marks j ∙ ap (λ b. b || has_number j q) (other_number k j (λ e. differs (sym e)))
    ];
    once = before.once.1;
  }

-- no number waits, so none is marked
pub none_marked : (waits : List Bool) → AreMarked [] waits → (k : ℕ) → get_or waits k false ≡ false
none_marked waits are k = are.marks k

-- a number that waits stays marked
pub marked_stay : (k : ℕ) (q : List ℕ) (waits : List Bool) → AreMarked q waits → get_or waits k false ≡ true → AreMarked q (set waits k true)
marked_stay k q waits before is = record {
  marks = λ j. elim (cases_eq j k) [
    | inl e ↦ ap (λ i. get_or (set waits k true) i false) e ∙ get_or-set_same waits k true false (marked_within waits k is) ∙ sym is ∙ before.marks k ∙ ap (λ i. has_number i q) (sym e)
    | inr differs ↦ get_or-set_other waits k j true false differs ∙ before.marks j
  ];
  once = before.once;
}

-- One more at the end, which waits.
get_last : (waits : List Bool) → get_or (waits ++ true ∷ []) (length waits) false ≡ true
get_last [] = refl
get_last (b ∷ waits) = get_last waits

get_others : (waits : List Bool) (j : ℕ) → (j ≡ length waits → ⊥) → get_or (waits ++ true ∷ []) j false ≡ get_or waits j false
get_others [] zero differs = absurd (differs refl)
get_others [] (suc j) differs = refl
get_others (b ∷ waits) zero differs = refl
get_others (b ∷ waits) (suc j) differs = get_others waits j (λ e. differs (ap suc e))

past_end : (waits : List Bool) → get_or waits (length waits) false ≡ false
past_end [] = refl
past_end (b ∷ waits) = past_end waits

pub marked_add : (q : List ℕ) (waits : List Bool) → AreMarked q waits → AreMarked (q ++ length waits ∷ []) (waits ++ true ∷ [])
marked_add q waits before =
    let n : ℕ = length waits in
    let absent : has_number n q ≡ false = sym (before.marks n) ∙ past_end waits in
    record {
      marks = λ j. elim (cases_eq j n) [
        | inl is ↦ ap (λ i. get_or (waits ++ true ∷ []) i false) is ∙ get_last waits ∙ sym (last_there n q) ∙ ap (λ i. has_number i (q ++ n ∷ [])) (sym is)
        | inr differs ↦ get_others waits j differs ∙ before.marks j ∙ sym (others_there j n q differs)
      ];
      once = once_push n q before.once absent;
    }
