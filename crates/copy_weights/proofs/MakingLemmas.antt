-- Weights and return maps that are made from lists.
use Rattle.std.proofs.Common.{◌≡◌, ℕ, ◌%◌, ◌^◌, ◌<◌, ◌≤◌, Bool, true, false, ◌||◌, List, [], ◌∷◌, ◌++◌, length, set, get_or, length-set, get_or-set_same, get_or-set_other, pow_pos, refl, sym, ap, ap₂, ◌∙◌, inl, inr, arith}
use Rattle.std.specs.Prelude.{IsTrue, nat_eq, nat_lt, cond, bit_or}
use Rattle.std.specs.List.{AllByRecursion}
use Rattle.std.proofs.Math.Nat.{mod-lt, mod-eq_of_lt}
use Rattle.std.proofs.lemmas.List.Elements.{recursion_from_All}
use Rattle.std.proofs.lemmas.List.Folds.{list_any-append}
use Rattle.std.proofs.lemmas.Bool.{cases_lt, cases_eq, cases_Bool, cond-true, cond-false, false_from_ne_true, eqb-true, eq-eqb, ltb-true, lt-ltb}
use Rattle.semiring_laws.specs.Semiring.{Fits}
use Rattle.copy_weights.specs.declared.form.Form.{Form}
use Rattle.copy_weights.specs.declared.form.Form.TheVariants.{Varying, Meet}
use Rattle.copy_weights.specs.declared.form.CopyW.TheVariants.{Map}
use Rattle.copy_weights.specs.Forms.{has, itself, identity, tabulate, form, form_fits, over, changed, changes_of, AreChanges, is_listed, set_of}
use Rattle.copy_weights.specs.CopyConst.{copy_operations}
use Rattle.copy_weights.specs.private.SetLaws.{has_or, has_zero, has_pow_same, has_pow_other, sets_same, set_below_has, set_below_past}
use Rattle.copy_weights.specs.CopyLaws.{length_tabulate, form_tabulate, tabulate_same, forms_by_places, fits_tabulate, itself_fits}

-- ---- forms over so many variables

over_fits : (n : ℕ) (f : Form) → IsTrue (form_fits n (over n f))
over_fits n Varying = refl
over_fits n (Meet c s) = lt-ltb (s % 2 ^ n) (2 ^ n) (mod-lt s (pow_pos n))

over_same : (n : ℕ) (f : Form) → IsTrue (form_fits n f) → over n f ≡ f
over_same n Varying h = refl
over_same n (Meet c s) h = ap (Meet c) (mod-eq_of_lt (ltb-true s (2 ^ n) h))

-- ---- changes

-- no change
pub unchanged : (n : ℕ) → identity n ≡ changes_of n []
unchanged n = tabulate_same n itself (λ k. over n (itself k)) (λ k below. sym (over_same n (itself k) (itself_fits n k below)))

changed_at : (c : ℕ × Form) (cs : List (ℕ × Form)) (k : ℕ) → nat_eq c.0 k ≡ true → changed (c ∷ cs) k ≡ c.1
changed_at c cs k e = cond-true (nat_eq c.0 k) c.1 (changed cs k) e

changed_other : (c : ℕ × Form) (cs : List (ℕ × Form)) (k : ℕ) → nat_eq c.0 k ≡ false → changed (c ∷ cs) k ≡ changed cs k
changed_other c cs k e = cond-false (nat_eq c.0 k) c.1 (changed cs k) e

-- one more change in front
pub change_set : (n : ℕ) (c : ℕ × Form) (cs : List (ℕ × Form)) (list : List Form) → list ≡ changes_of n cs → set list c.0 (over n c.1) ≡ changes_of n (c ∷ cs)
unfolding form
change_set n c cs list e =
    let count : length list ≡ n = ap length e ∙ length_tabulate n (λ k. over n (changed cs k)) in
    sym (forms_by_places n (λ k. over n (changed (c ∷ cs) k)) (set list c.0 (over n c.1)) (length-set list c.0 (over n c.1) ∙ count) (λ i b. elim (cases_eq i c.0) [
      | inl is ↦
          let within : c.0 < length list = omega (arith, is, count, b) in
          ap (over n) (changed_at c cs i (eq-eqb c.0 i (sym is)))
          ∙ sym (get_or-set_same list c.0 (over n c.1) Varying within)
          ∙ ap (λ j. get_or (set list c.0 (over n c.1)) j Varying) (sym is)
      | inr apart ↦
          ap (over n) (changed_other c cs i (false_from_ne_true (nat_eq c.0 i) (λ h. apart (sym (eqb-true c.0 i h)))))
          ∙ sym (form_tabulate n (λ k. over n (changed cs k)) i b)
          ∙ ap (λ l. get_or l i Varying) (sym e)
          ∙ sym (get_or-set_other list c.0 i (over n c.1) Varying apart)
    ]))

-- the weight of changes is a weight over n variables
pub changes_fit : (n : ℕ) (cs : List (ℕ × Form)) → Fits (copy_operations n) (Map (changes_of n cs))
changes_fit n cs = fits_tabulate n (λ k. over n (changed cs k)) (λ k below. over_fits n (changed cs k))

changed_fits : (n : ℕ) (cs : List (ℕ × Form)) → AllByRecursion (λ c. (c.0 < n) × IsTrue (form_fits n c.1)) cs → (k : ℕ) → k < n → IsTrue (form_fits n (changed cs k))
changed_fits n [] all k below = itself_fits n k below
changed_fits n (c ∷ cs) all k below = elim (cases_Bool (nat_eq c.0 k)) [
  | inl is ↦ ap (form_fits n) (changed_at c cs k is) ∙ all.0.1
  | inr apart ↦ ap (form_fits n) (changed_other c cs k apart) ∙ changed_fits n cs all.1 k below
]

-- nothing is left out of changes over n variables
pub changes_whole : (n : ℕ) (cs : List (ℕ × Form)) → AreChanges n cs → changes_of n cs ≡ tabulate n (changed cs)
changes_whole n cs all =
    tabulate_same n (λ k. over n (changed cs k)) (changed cs)
    (λ k below. over_same n (changed cs k) (changed_fits n cs (recursion_from_All (λ c. (c.0 < n) × IsTrue (form_fits n c.1)) cs all) k below))

-- ---- sets of listed variables

pub set_of_none : (n : ℕ) → 0 ≡ set_of n []
set_of_none n = sets_same 0 (set_of n []) (λ i. has_zero i ∙ sym (elim (cases_lt i n) [
  | inl below ↦ set_below_has n (is_listed []) i below
  | inr past ↦ set_below_past n (is_listed []) i past
]))

pub set_of_has : (n : ℕ) (ks : List ℕ) (k : ℕ) → k < n → has (set_of n ks) k ≡ is_listed ks k
set_of_has n ks k below = set_below_has n (is_listed ks) k below

has_member : (n k i : ℕ) → i < n → has (cond (nat_lt k n) (2 ^ k) 0) i ≡ nat_eq k i
has_member n k i below = elim (cases_eq k i) [
  | inl is ↦
      ap (λ m. has m i) (cond-true (nat_lt k n) (2 ^ k) 0 (lt-ltb k n (omega (arith, is, below))))
      ∙ ap (λ j. has (2 ^ k) j) (sym is) ∙ has_pow_same k ∙ sym (eq-eqb k i is)
  | inr apart ↦ elim (cases_Bool (nat_lt k n)) [
    | inl less ↦ ap (λ m. has m i) (cond-true (nat_lt k n) (2 ^ k) 0 less) ∙ has_pow_other k i (λ e. apart (sym e)) ∙ sym (false_from_ne_true (nat_eq k i) (λ e. apart (eqb-true k i e)))
    | inr past ↦ ap (λ m. has m i) (cond-false (nat_lt k n) (2 ^ k) 0 past) ∙ has_zero i ∙ sym (false_from_ne_true (nat_eq k i) (λ e. apart (eqb-true k i e)))
  ]
]

has_member_past : (n k i : ℕ) → n ≤ i → has (cond (nat_lt k n) (2 ^ k) 0) i ≡ false
has_member_past n k i past = elim (cases_Bool (nat_lt k n)) [
  | inl less ↦
      let below : k < n = ltb-true k n less in
      ap (λ m. has m i) (cond-true (nat_lt k n) (2 ^ k) 0 less) ∙ has_pow_other k i (λ e. absurd (omega (arith, e, below, past)))
  | inr not ↦ ap (λ m. has m i) (cond-false (nat_lt k n) (2 ^ k) 0 not) ∙ has_zero i
]

or_false : (b : Bool) → (b || false) ≡ b
or_false true = refl
or_false false = refl

listed_more : (ks : List ℕ) (k i : ℕ) → is_listed (ks ++ k ∷ []) i ≡ (is_listed ks i || nat_eq k i)
listed_more ks k i = list_any-append (λ j. nat_eq j i) ks (k ∷ []) ∙ ap (λ b. is_listed ks i || b) (or_false (nat_eq k i))

-- one more variable behind the others
pub set_of_more : (n k : ℕ) (ks : List ℕ) (old one : ℕ) → old ≡ set_of n ks → one ≡ cond (nat_lt k n) (2 ^ k) 0 → bit_or old one ≡ set_of n (ks ++ k ∷ [])
set_of_more n k ks old one e is =
    ap₂ bit_or e is
    ∙ sets_same (bit_or (set_of n ks) (cond (nat_lt k n) (2 ^ k) 0)) (set_of n (ks ++ k ∷ [])) (λ i. has_or (set_of n ks) (cond (nat_lt k n) (2 ^ k) 0) i ∙ elim (cases_lt i n) [
      | inl below ↦
          ap₂ (λ a b. a || b) (set_of_has n ks i below) (has_member n k i below)
          ∙ sym (set_of_has n (ks ++ k ∷ []) i below ∙ listed_more ks k i)
      | inr past ↦
          ap₂ (λ a b. a || b) (set_below_past n (is_listed ks) i past) (has_member_past n k i past)
          ∙ sym (set_below_past n (is_listed (ks ++ k ∷ [])) i past)
    ])
