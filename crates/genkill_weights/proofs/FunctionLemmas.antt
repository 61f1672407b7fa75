-- What weights do to sets of facts.
use Rattle.std.proofs.Common.{◌≡◌, ℕ, zero, suc, ◌-◌, ◌*◌, ◌/◌, ◌%◌, ◌^◌, ◌<◌, ◌≤◌, ◌↔◌, Bool, true, false, not, ◌&&◌, ◌||◌, List, [], ◌∷◌, length, refl, sym, ap, ap₂, ◌∙◌, inl, inr, arith}
use Rattle.std.specs.Prelude.{IsTrue, nat_lt, cond, bit_and, bit_or, Some, option_and_then}
use Rattle.std.proofs.lemmas.Bool.{cases_lt, false_from_ne_true, ltb-true, lt-ltb}
use Rattle.std.proofs.lemmas.Option.{same_Some}
use Rattle.semiring_laws.specs.Semiring.{Fits}
use Rattle.genkill_weights.specs.declared.weight.GenKillW.{GenKillW}
use Rattle.genkill_weights.specs.declared.weight.GenKillW.TheVariants.{Zero, Map}
use Rattle.genkill_weights.specs.declared.weight.MaskMap.TheVariants.{Restore}
use Rattle.genkill_weights.specs.Masks.{tabulate, word, has, fact, is_mask, is_within}
use Rattle.genkill_weights.specs.GenKill.{or_mask, gens_word, keep_word, gens_then, keep_then, without, all_facts, no_facts, united, followed, after_of, weight_fits, genkill_operations}
use Rattle.genkill_weights.specs.FactSets.{IsFactSet, passed, facts_after, union, restored}
use Rattle.genkill_weights.specs.GenKillLaws.{keep_mask, gens_mask, gens_kept, maps_same}
use Rattle.genkill_weights.specs.private.MaskLaws.{alike, alike_is, at6, has_or, has_and, has_not, word_tabulate, mask_length, mask_word, within_word, masks_by_facts}
use Rattle.genkill_weights.specs.private.WordLaws.{has_zero, has_all, has_within, absorbed, and_zero}

-- ---- masks beyond their words

pub word_outside : (mask : List ℕ) (i : ℕ) → length mask ≤ i → word mask i ≡ 0
unfolding word
word_outside [] i h = refl
word_outside (x ∷ xs) zero h = absurd (omega (arith, h))
word_outside (x ∷ xs) (suc i) h = word_outside xs i (let low : suc (length xs) ≤ suc i = h in omega arith)

length_tabulated : (n : ℕ) (w : ℕ → ℕ) → length (tabulate n w) ≡ n
unfolding tabulate
length_tabulated zero w = refl
length_tabulated (suc n) w = ap suc (length_tabulated n (λ i. w (suc i)))

-- a mask of words that are 0 from the width on, at each fact
fact_tabulate : (n : ℕ) (w : ℕ → ℕ) → ((i : ℕ) → n ≤ i → w i ≡ 0) → (f : ℕ) → fact (tabulate n w) f ≡ has (w (f / 64)) (f % 64)
fact_tabulate n w none f = ap (λ x. has x (f % 64)) (elim (cases_lt (f / 64) n) [
  | inl less ↦ word_tabulate n w (f / 64) less
  | inr more ↦ word_outside (tabulate n w) (f / 64) (let count = length_tabulated n w in omega (arith, count, more)) ∙ sym (none (f / 64) (omega (arith, more)))
])

module _ (n : ℕ) (mask : List ℕ) (fit : IsTrue (is_mask n mask)) where
  none_beyond : (i : ℕ) → n ≤ i → word mask i ≡ 0
  none_beyond i h = word_outside mask i (let count = mask_length n mask fit in omega (arith, count, h))

  word_below : (i : ℕ) → word mask i < 2 ^ 64
  word_below i = elim (cases_lt i n) [
    | inl less ↦ mask_word n mask fit i less
    | inr more ↦ let e = none_beyond i (omega (arith, more)) in omega (arith, e)
  ]

-- ---- functions on sets

pub some_same : (x y : ℕ → Bool) → ((f : ℕ) → x f ≡ y f) → Some x ≡ Some y
some_same x y same = let e : x ≡ y = λ i f. same f i in ap Some e

module _ (n : ℕ) (k g l h : List ℕ) (fa : IsTrue (weight_fits n (Map k g))) (fb : IsTrue (weight_fits n (Map l h))) where
  no_word : (i : ℕ) → n ≤ i → gens_word (word g i) (word l i) (word h i) ≡ 0
  no_word i b = ap₂ (λ u v. gens_word u (word l i) v) (none_beyond n g (gens_mask n k g fa) i b) (none_beyond n h (gens_mask n l h fb) i b) ∙ ap (λ u. bit_or u 0) (and_zero (word l i))

  no_kept_word : (i : ℕ) → n ≤ i → keep_word (word k i) (word g i) (word l i) (word h i) ≡ 0
  no_kept_word i b = ap₂ bit_or (ap (λ u. bit_and u (word l i)) (none_beyond n k (keep_mask n k g fa) i b) ∙ and_zero (word l i)) (no_word i b)

  composed : (x : ℕ → Bool) (f : ℕ) → passed (keep_then n k g l h) (gens_then n g l h) x f ≡ passed l h (passed k g x) f
  composed x f =
      ap₂ (λ u v. (x f && u) || v) (fact_tabulate n (λ i. keep_word (word k i) (word g i) (word l i) (word h i)) no_kept_word f) (fact_tabulate n (λ i. gens_word (word g i) (word l i) (word h i)) no_word f)
      ∙ simp (has_or, has_and) (alike_is _ _ (at6 (λ x a b c d _. alike ((x && ((a && c) || ((b && c) || d))) || ((b && c) || d)) ((((x && a) || b) && c) || d)) refl (x f) (fact k f) (fact g f) (fact l f) (fact h f) true))

  united_facts : (a b : List ℕ) → IsTrue (is_mask n a) → IsTrue (is_mask n b) → (f : ℕ) → fact (or_mask n a b) f ≡ (fact a f || fact b f)
  united_facts a b ha hb f =
      fact_tabulate n (λ i. bit_or (word a i) (word b i)) (λ i c. ap₂ bit_or (none_beyond n a ha i c) (none_beyond n b hb i c)) f
      ∙ has_or (word a (f / 64)) (word b (f / 64)) (f % 64)

  added : (x : ℕ → Bool) (f : ℕ) → passed (or_mask n k l) (or_mask n g h) x f ≡ (passed k g x f || passed l h x f)
  added x f =
      ap₂ (λ u v. (x f && u) || v) (united_facts k l (keep_mask n k g fa) (keep_mask n l h fb) f) (united_facts g h (gens_mask n k g fa) (gens_mask n l h fb) f)
      ∙ alike_is _ _ (at6 (λ x a b c d _. alike ((x && (a || c)) || (b || d)) (((x && a) || b) || ((x && c) || d))) refl (x f) (fact k f) (fact g f) (fact l f) (fact h f) true)

-- extend is composition
pub extend_composes : (n : ℕ) (a b : GenKillW n) → Fits (genkill_operations n) a → Fits (genkill_operations n) b → (x : ℕ → Bool)
    → facts_after n (followed n a b) x ≡ option_and_then (facts_after n b) (facts_after n a x)
extend_composes n Zero b fa fb x = refl
extend_composes n (Map k g) Zero fa fb x = refl
extend_composes n (Map k g) (Map l h) fa fb x = some_same (passed (keep_then n k g l h) (gens_then n g l h) x) (passed l h (passed k g x)) (composed n k g l h fa fb x)

-- combine is union at each set
pub combine_unites : (n : ℕ) (a b : GenKillW n) → Fits (genkill_operations n) a → Fits (genkill_operations n) b → (x : ℕ → Bool)
    → facts_after n (united n a b) x ≡ union (facts_after n a x) (facts_after n b x)
combine_unites n Zero b fa fb x = refl
combine_unites n (Map k g) Zero fa fb x = refl
combine_unites n (Map k g) (Map l h) fa fb x = some_same (passed (or_mask n k l) (or_mask n g h) x) (λ f. passed k g x f || passed l h x f) (added n k g l h fa fb x)

-- ---- one

kept_alone : (b : Bool) → ((b && true) || false) ≡ b
kept_alone true = refl
kept_alone false = refl

nothing_kept : (b : Bool) → ((b && false) || false) ≡ false
nothing_kept true = refl
nothing_kept false = refl

pub fact_of_all : (n f : ℕ) → f < 64 * n → fact (all_facts n) f ≡ true
fact_of_all n f below = ap (λ w. has w (f % 64)) (word_tabulate n (λ i. 2 ^ 64 - 1) (f / 64) (omega (arith, below))) ∙ has_all (f % 64) (omega arith)

pub fact_of_none : (n f : ℕ) → fact (no_facts n) f ≡ false
fact_of_none n f = fact_tabulate n (λ i. 0) (λ i b. refl) f ∙ has_zero (f % 64)

all_beyond : (n f : ℕ) → 64 * n ≤ f → fact (all_facts n) f ≡ false
all_beyond n f h =
    ap (λ w. has w (f % 64)) (word_outside (all_facts n) (f / 64) (let count = length_tabulated n (λ i. 2 ^ 64 - 1) in omega (arith, count, h))) ∙ has_zero (f % 64)

one_keeps : (n : ℕ) (x : ℕ → Bool) → IsFactSet n x → (f : ℕ) → passed (all_facts n) (no_facts n) x f ≡ x f
one_keeps n x none f = elim (cases_lt f (64 * n)) [
  | inl less ↦ ap₂ (λ u v. (x f && u) || v) (fact_of_all n f less) (fact_of_none n f) ∙ kept_alone (x f)
  | inr more ↦ ap₂ (λ u v. (x f && u) || v) (all_beyond n f (omega (arith, more))) (fact_of_none n f) ∙ nothing_kept (x f) ∙ sym (none f (omega (arith, more)))
]

pub one_is_identity : (n : ℕ) (x : ℕ → Bool) → IsFactSet n x → facts_after n (Map (all_facts n) (no_facts n)) x ≡ Some x
one_is_identity n x none = some_same (passed (all_facts n) (no_facts n) x) x (one_keeps n x none)

-- ---- return maps

choose_kept : (r x k g : Bool) → ((x && (k || r)) || (g && not r)) ≡ cond r x ((x && k) || g)
choose_kept r x k g = alike_is _ _ (at6 (λ r x k g _ _. alike ((x && (k || r)) || (g && not r)) (cond r x ((x && k) || g))) refl r x k g true true)

module _ (n : ℕ) (facts k g : List ℕ) (fm : IsTrue (is_mask n facts)) (fa : IsTrue (weight_fits n (Map k g))) where
  left_facts : (f : ℕ) → fact (without n g facts) f ≡ (fact g f && not (fact facts f))
  left_facts f =
      fact_tabulate n (λ i. bit_and (word g i) (2 ^ 64 - 1 - word facts i)) (λ i b.
      ap (λ u. bit_and u (2 ^ 64 - 1 - word facts i)) (none_beyond n g (gens_mask n k g fa) i b) ∙ and_zero (2 ^ 64 - 1 - word facts i)) f
      ∙ has_and (word g (f / 64)) (2 ^ 64 - 1 - word facts (f / 64)) (f % 64)
      ∙ ap (λ u. fact g f && u) (has_not (word facts (f / 64)) (f % 64) (word_below n facts fm (f / 64)) (omega arith))

  kept_facts : (f : ℕ) → fact (or_mask n k facts) f ≡ (fact k f || fact facts f)
  kept_facts f =
      fact_tabulate n (λ i. bit_or (word k i) (word facts i)) (λ i c. ap₂ bit_or (none_beyond n k (keep_mask n k g fa) i c) (none_beyond n facts fm i c)) f
      ∙ has_or (word k (f / 64)) (word facts (f / 64)) (f % 64)

  as_before : (x : ℕ → Bool) (f : ℕ) → passed (or_mask n k facts) (without n g facts) x f ≡ cond (fact facts f) (x f) (passed k g x f)
  as_before x f = ap₂ (λ u v. (x f && u) || v) (kept_facts f) (left_facts f) ∙ choose_kept (fact facts f) (x f) (fact k f) (fact g f)

pub restore_is_of_caller : (n : ℕ) (facts : List ℕ) (w : GenKillW n) → IsTrue (is_mask n facts) → Fits (genkill_operations n) w → (x : ℕ → Bool)
    → facts_after n (after_of n (Restore facts) w) x ≡ restored facts x (facts_after n w x)
restore_is_of_caller n facts Zero fm fa x = refl
restore_is_of_caller n facts (Map k g) fm fa x = some_same (passed (or_mask n k facts) (without n g facts) x) (λ f. cond (fact facts f) (x f) (passed k g x f)) (as_before n facts k g fm fa x)

-- ---- equality

abbrev AreOneFunction : (n : ℕ) → GenKillW n → GenKillW n → Type 0
AreOneFunction n a b = (x : ℕ → Bool) → IsFactSet n x → facts_after n a x ≡ facts_after n b x

abbrev everything : ℕ → ℕ → Bool
everything n f = nat_lt f (64 * n)

everything_ends : (n : ℕ) → IsFactSet n (everything n)
everything_ends n f h = false_from_ne_true (nat_lt f (64 * n)) (λ e. let less = ltb-true f (64 * n) e in absurd (omega (arith, less, h)))

module _ (n : ℕ) (k g l h : List ℕ) (fa : IsTrue (weight_fits n (Map k g))) (fb : IsTrue (weight_fits n (Map l h))) (same : AreOneFunction n (Map k g) (Map l h)) where
  one_passed : (x : ℕ → Bool) → IsFactSet n x → (f : ℕ) → passed k g x f ≡ passed l h x f
  one_passed x none f = ap (λ y. y f) (same_Some (passed k g x) (passed l h x) (same x none))

  one_gens : (f : ℕ) → fact g f ≡ fact h f
  one_gens f = one_passed (λ _. false) (λ _ _. refl) f

pub within_fact : (n : ℕ) (k g : List ℕ) → IsTrue (is_within n g k) → (f : ℕ) → f < 64 * n → (fact k f || fact g f) ≡ fact k f
within_fact n k g w f below =
    absorbed (fact g f) (fact k f) (has_within (word g (f / 64)) (word k (f / 64)) (within_word n g k w (f / 64) (omega (arith, below))) (f % 64))

passed_all : (n : ℕ) (k g : List ℕ) (f : ℕ) → f < 64 * n → passed k g (everything n) f ≡ (fact k f || fact g f)
passed_all n k g f below = ap (λ b. (b && fact k f) || fact g f) (lt-ltb f (64 * n) below)

one_keep : (n : ℕ) (k g l h : List ℕ) → IsTrue (weight_fits n (Map k g)) → IsTrue (weight_fits n (Map l h)) → AreOneFunction n (Map k g) (Map l h) → (f : ℕ) → f < 64 * n → fact k f ≡ fact l f
one_keep n k g l h fa fb same f below =
    sym (passed_all n k g f below ∙ within_fact n k g (gens_kept n k g fa) f below)
    ∙ one_passed n k g l h fa fb same (everything n) (everything_ends n) f
    ∙ passed_all n l h f below ∙ within_fact n l h (gens_kept n l h fb) f below

one_weight : (n : ℕ) (a b : GenKillW n) → Fits (genkill_operations n) a → Fits (genkill_operations n) b → AreOneFunction n a b → a ≡ b
one_weight n Zero Zero fa fb same = refl
one_weight n Zero (Map l h) fa fb same = let e = same (λ _. false) (λ _ _. refl) in cc
one_weight n (Map k g) Zero fa fb same = let e = same (λ _. false) (λ _ _. refl) in cc
one_weight n (Map k g) (Map l h) fa fb same =
    maps_same n k l g h
    (masks_by_facts n k l (keep_mask n k g fa) (keep_mask n l h fb) (one_keep n k g l h fa fb same))
    (masks_by_facts n g h (gens_mask n k g fa) (gens_mask n l h fb) (λ f _. one_gens n k g l h fa fb same f))

pub equal_by_functions : (n : ℕ) (a b : GenKillW n) → Fits (genkill_operations n) a → Fits (genkill_operations n) b
    → (a ≡ b) ↔ ((x : ℕ → Bool) → IsFactSet n x → facts_after n a x ≡ facts_after n b x)
equal_by_functions n a b fa fb = ((λ e x _. ap (λ w. facts_after n w x) e), one_weight n a b fa fb)
