-- Masks by their facts: one more fact, all but some, and the facts that a weight is made of.
use Rattle.std.proofs.Common.{◌≡◌, ◌≢◌, ℕ, zero, suc, ◌+◌, ◌-◌, ◌*◌, ◌/◌, ◌%◌, ◌^◌, ◌<◌, ◌≤◌, Bool, true, false, not, ◌&&◌, ◌||◌, List, length, get_or, set, replicate, length-set, get_or-set_same, get_or-set_other, mod-lt, pow_pos, w64, refl, sym, subst, ap, ap₂, ◌∙◌, inl, inr, arith}
use Rattle.std.specs.Prelude.{IsTrue, nat_eq, nat_lt, cond, bit_and, bit_or}
use Rattle.std.proofs.lemmas.Bool.{cases_eq, eqb-true, eq-eqb, false_from_ne_true, and_from, lt-ltb}
use Rattle.std.proofs.lemmas.Nat.Bits.{bit_at_set_same, bit_at_set_other, bit_at-pow_same, bit_at-pow_other, bit_at_above}
use Rattle.std.proofs.lemmas.Nat.{or_lt}
use Rattle.std.proofs.Math.Nat.{pow-succ'}
use Rattle.semiring_laws.specs.Semiring.{Fits}
use Rattle.genkill_weights.specs.Effects.{generates, kills}
use Rattle.genkill_weights.specs.Masks.{word, has, fact, each_below, is_mask, word_where, mask_where}
use Rattle.genkill_weights.specs.private.MaskLaws.{has_and, has_not, words_same_below, has_or, each_from, word_tabulate, mask_length, mask_word, mask_tabulate, masks_by_facts, replicate_is}
use Rattle.genkill_weights.specs.private.WordLaws.{or_below, and_below, has_zero, has_all}
use Rattle.genkill_weights.specs.GenKill.{or_mask, without, genkill_operations}
use Rattle.genkill_weights.specs.GenKillLaws.{map_of, maps_same, fits_from}
use Rattle.genkill_weights.specs.Making.{is_listed, HasFacts, weight_where, Makes}

or_true : (b : Bool) → (b || true) ≡ true
or_true true = refl
or_true false = refl

or_false : (b : Bool) → (b || false) ≡ b
or_false true = refl
or_false false = refl

-- a word with one more bit
abbrev pub with_bit : ℕ → ℕ → ℕ
with_bit w k = bit_or w (1 * 2 ^ k % 2 ^ 64)

has_with_same : (w k : ℕ) → k < 64 → has (with_bit w k) k ≡ true
unfolding has
has_with_same w k h = ap (λ b. nat_eq b 1) (bit_at_set_same w64 w k h)

has_with_other : (w k i : ℕ) → k < 64 → i ≢ k → has (with_bit w k) i ≡ has w i
unfolding has
has_with_other w k i h apart = ap (λ b. nat_eq b 1) (bit_at_set_other w64 w k h i apart)

abbrev pub with_fact : List ℕ → ℕ → List ℕ
with_fact mask g = set mask (g / 64) (with_bit (get_or mask (g / 64) 0) (g % 64))

word_same : (mask : List ℕ) (g : ℕ) → g / 64 < length mask → word (with_fact mask g) (g / 64) ≡ with_bit (word mask (g / 64)) (g % 64)
unfolding word
word_same mask g h = get_or-set_same mask (g / 64) (with_bit (get_or mask (g / 64) 0) (g % 64)) 0 h

word_other : (mask : List ℕ) (g i : ℕ) → i ≢ g / 64 → word (with_fact mask g) i ≡ word mask i
unfolding word
word_other mask g i apart = get_or-set_other mask (g / 64) i (with_bit (get_or mask (g / 64) 0) (g % 64)) 0 apart

apart_false : (g f : ℕ) → (g ≡ f → ⊥) → nat_eq g f ≡ false
apart_false g f h = false_from_ne_true (nat_eq g f) (λ e. h (eqb-true g f e))

pub fact_added : (n : ℕ) (mask : List ℕ) (g : ℕ) → length mask ≡ n → g < 64 * n → (f : ℕ) → fact (with_fact mask g) f ≡ (fact mask f || nat_eq g f)
fact_added n mask g count below f =
    let within : g / 64 < length mask = omega arith in
    elim (cases_eq (f / 64) (g / 64)) [
      | inl word_is ↦ elim (cases_eq (f % 64) (g % 64)) [
        | inl bit_is ↦
            let is : g ≡ f = omega arith in
            ap₂ (λ i b. has (word (with_fact mask g) i) b) word_is bit_is
            ∙ ap (λ w. has w (g % 64)) (word_same mask g within)
            ∙ has_with_same (word mask (g / 64)) (g % 64) (omega arith)
            ∙ sym (ap (λ b. fact mask f || b) (eq-eqb g f is) ∙ or_true (fact mask f))
        | inr bit_apart ↦
            ap (λ i. has (word (with_fact mask g) i) (f % 64)) word_is
            ∙ ap (λ w. has w (f % 64)) (word_same mask g within)
            ∙ has_with_other (word mask (g / 64)) (g % 64) (f % 64) (omega arith) bit_apart
            ∙ ap (λ i. has (word mask i) (f % 64)) (sym word_is)
            ∙ sym (ap (λ b. fact mask f || b) (apart_false g f (λ e. bit_apart (ap (λ x. x % 64) (sym e)))) ∙ or_false (fact mask f))
      ]
      | inr word_apart ↦
          ap (λ w. has w (f % 64)) (word_other mask g (f / 64) word_apart)
          ∙ sym (ap (λ b. fact mask f || b) (apart_false g f (λ e. word_apart (ap (λ x. x / 64) (sym e)))) ∙ or_false (fact mask f))
    ]

bit_below : (k : ℕ) → 1 * 2 ^ k % 2 ^ 64 < 2 ^ 64
bit_below k = mod-lt (1 * 2 ^ k) (pow_pos 64)

pub mask_added : (n : ℕ) (mask : List ℕ) (g : ℕ) → IsTrue (is_mask n mask) → g < 64 * n → IsTrue (is_mask n (with_fact mask g))
mask_added n mask g h below =
    let count = mask_length n mask h in
    and_from (nat_eq (length (with_fact mask g)) n) (each_below n (λ i. nat_lt (word (with_fact mask g) i) (2 ^ 64)))
    (eq-eqb (length (with_fact mask g)) n (length-set mask (g / 64) (with_bit (get_or mask (g / 64) 0) (g % 64)) ∙ count))
    (each_from n (λ i. nat_lt (word (with_fact mask g) i) (2 ^ 64)) (λ i less. elim (cases_eq i (g / 64)) [
      | inl is ↦
          ap (λ w. nat_lt w (2 ^ 64)) (ap (word (with_fact mask g)) is ∙ word_same mask g (omega arith))
          ∙ lt-ltb (with_bit (word mask (g / 64)) (g % 64)) (2 ^ 64) (or_below (word mask (g / 64)) (1 * 2 ^ (g % 64) % 2 ^ 64) (mask_word n mask h (g / 64) (omega arith)) (bit_below (g % 64)))
      | inr apart ↦ ap (λ w. nat_lt w (2 ^ 64)) (word_other mask g i apart) ∙ lt-ltb (word mask i) (2 ^ 64) (mask_word n mask h i less)
    ]))

-- ---- masks of lists

pub none_mask : (n : ℕ) → IsTrue (is_mask n (replicate n 0))
none_mask n = ap (is_mask n) (replicate_is n 0) ∙ mask_tabulate n (λ i. 0) (λ i b. omega arith)

pub none_facts : (n : ℕ) → HasFacts n (replicate n 0) (λ f. false)
none_facts n f below =
    let within : f / 64 < n = omega arith in
    ap (λ m. has (word m (f / 64)) (f % 64)) (replicate_is n 0) ∙ ap (λ w. has w (f % 64)) (word_tabulate n (λ i. 0) (f / 64) within) ∙ has_zero (f % 64)

-- ---- words and masks by a test

choice_below : (b : Bool) (k : ℕ) → cond b (2 ^ k) 0 < 2 ^ suc k
choice_below true k = let some = pow_pos k in let next : 2 ^ suc k ≡ 2 * 2 ^ k = pow-succ' 2 k in omega (arith, some, next)
choice_below false k = pow_pos (suc k)

pub word_where_below : (k : ℕ) (test : ℕ → Bool) → word_where k test < 2 ^ k
unfolding word_where
word_where_below zero test = pow_pos 0
word_where_below (suc k) test =
    let low = word_where_below k test in
    let next : 2 ^ suc k ≡ 2 * 2 ^ k = pow-succ' 2 k in
    or_lt (suc k) (cond (test k) (2 ^ k) 0) (word_where k test) (choice_below (test k) k) (omega (arith, low, next))

has_choice_same : (b : Bool) (k : ℕ) → has (cond b (2 ^ k) 0) k ≡ b
unfolding has
has_choice_same true k = ap (λ p. nat_eq p 1) (bit_at-pow_same k)
has_choice_same false k = has_zero k

has_choice_other : (b : Bool) (k i : ℕ) → i ≢ k → has (cond b (2 ^ k) 0) i ≡ false
unfolding has
has_choice_other true k i apart = ap (λ p. nat_eq p 1) (bit_at-pow_other k i apart)
has_choice_other false k i apart = has_zero i

has_none_above : (w k i : ℕ) → w < 2 ^ k → k ≤ i → has w i ≡ false
unfolding has
has_none_above w k i low more = ap (λ p. nat_eq p 1) (bit_at_above w k i low more)

has_where : (k : ℕ) (test : ℕ → Bool) (i : ℕ) → i < k → has (word_where k test) i ≡ test i
unfolding word_where
has_where zero test i below = absurd (omega arith)
has_where (suc k) test i below = has_or (cond (test k) (2 ^ k) 0) (word_where k test) i ∙ elim (cases_eq i k) [
  | inl is ↦
      ap₂ (λ x y. x || y) (ap (has (cond (test k) (2 ^ k) 0)) is ∙ has_choice_same (test k) k) (has_none_above (word_where k test) k i (word_where_below k test) (omega (arith, is)))
      ∙ or_false (test k) ∙ ap test (sym is)
  | inr apart ↦ ap₂ (λ x y. x || y) (has_choice_other (test k) k i apart) (has_where k test i (omega (arith, apart)))
]

module _ (n : ℕ) (facts : ℕ → Bool) where
  abbrev words_where : ℕ → ℕ
  words_where i = word_where 64 (λ j. facts (64 * i + j))

  pub mask_where_fits : IsTrue (is_mask n (mask_where n facts))
  mask_where_fits = mask_tabulate n words_where (λ i b. word_where_below 64 (λ j. facts (64 * i + j)))

  pub facts_where : HasFacts n (mask_where n facts) facts
  facts_where f below =
      ap (λ w. has w (f % 64)) (word_tabulate n words_where (f / 64) (omega (arith, below)))
      ∙ has_where 64 (λ j. facts (64 * (f / 64) + j)) (f % 64) (omega arith)
      ∙ ap facts (omega arith)

-- a mask is told by its facts
pub mask_is_where : (n : ℕ) (mask : List ℕ) (facts : ℕ → Bool) → IsTrue (is_mask n mask) → HasFacts n mask facts → mask ≡ mask_where n facts
mask_is_where n mask facts fit h = masks_by_facts n mask (mask_where n facts) fit (mask_where_fits n facts) (λ f below. h f below ∙ sym (facts_where n facts f below))

-- ---- all but some

module _ (n : ℕ) (killed : List ℕ) (fit : IsTrue (is_mask n killed)) where
  abbrev rest : List ℕ
  rest = without n (replicate n (2 ^ 64 - 1)) killed

  word_of_rest : (i : ℕ) → i < n → word rest i ≡ bit_and (2 ^ 64 - 1) (2 ^ 64 - 1 - word killed i)
  word_of_rest i b =
      word_tabulate n (λ j. bit_and (word (replicate n (2 ^ 64 - 1)) j) (2 ^ 64 - 1 - word killed j)) i b
      ∙ ap (λ w. bit_and w (2 ^ 64 - 1 - word killed i)) (ap (λ m. word m i) (replicate_is n (2 ^ 64 - 1)) ∙ word_tabulate n (λ j. 2 ^ 64 - 1) i b)

  bit_of_rest : (i j : ℕ) → i < n → j < 64 → has (word rest i) j ≡ not (has (word killed i) j)
  bit_of_rest i j b less =
      ap (λ w. has w j) (word_of_rest i b) ∙ has_and (2 ^ 64 - 1) (2 ^ 64 - 1 - word killed i) j
      ∙ ap₂ (λ x y. x && y) (has_all j less) (has_not (word killed i) j (mask_word n killed fit i b) less)

  rest_facts : (f : ℕ) → f < 64 * n → fact rest f ≡ not (fact killed f)
  rest_facts f below = bit_of_rest (f / 64) (f % 64) (omega arith) (omega arith)

  rest_below : (i : ℕ) → i < n → word rest i < 2 ^ 64
  rest_below i b = let e = word_of_rest i b in let low = and_below (2 ^ 64 - 1) (2 ^ 64 - 1 - word killed i) (omega arith) in omega (arith, e, low)

-- ---- the weight of two lists

-- what is generated, and all that is not killed
pub kept_where : (n : ℕ) (generated killed : ℕ → Bool)
    → or_mask n (mask_where n generated) (without n (replicate n (2 ^ 64 - 1)) (mask_where n killed)) ≡ mask_where n (λ f. generated f || not (killed f))
kept_where n generated killed =
    let g = mask_where n generated in
    let fit : IsTrue (is_mask n (mask_where n killed)) = mask_where_fits n killed in
    let others = without n (replicate n (2 ^ 64 - 1)) (mask_where n killed) in
    mask_is_where n (or_mask n g others) (λ f. generated f || not (killed f))
    (mask_tabulate n (λ i. bit_or (word g i) (word others i)) (λ i b.
    or_below (word g i) (word others i) (mask_word n g (mask_where_fits n generated) i b) (rest_below n (mask_where n killed) fit i b)))
    (λ f below.
    ap (λ w. has w (f % 64)) (word_tabulate n (λ i. bit_or (word g i) (word others i)) (f / 64) (omega (arith, below)))
    ∙ has_or (word g (f / 64)) (word others (f / 64)) (f % 64)
    ∙ ap₂ (λ x y. x || y) (facts_where n generated f below) (rest_facts n (mask_where n killed) fit f below ∙ ap not (facts_where n killed f below)))

generated_is_kept : (g k : Bool) → (g && (g || k)) ≡ g
generated_is_kept true k = refl
generated_is_kept false k = refl

killed_alone : (g k : Bool) → (true && not (g || not k)) ≡ (k && not g)
killed_alone true true = refl
killed_alone true false = refl
killed_alone false true = refl
killed_alone false false = refl

module _ (n : ℕ) (generated killed : ℕ → Bool) where
  abbrev kept : ℕ → Bool
  kept f = generated f || not (killed f)

  pub where_fits : Fits (genkill_operations n) (weight_where n generated killed)
  where_fits = fits_from n (words_where n kept) (words_where n generated)
      (λ i b. word_where_below 64 (λ j. kept (64 * i + j))) (λ i b. word_where_below 64 (λ j. generated (64 * i + j)))
      (λ i b. words_same_below (bit_and (words_where n generated i) (words_where n kept i)) (words_where n generated i)
      (and_below (words_where n generated i) (words_where n kept i) (word_where_below 64 (λ j. generated (64 * i + j)))) (word_where_below 64 (λ j. generated (64 * i + j))) (λ j less.
      has_and (words_where n generated i) (words_where n kept i) j
      ∙ ap₂ (λ x y. x && y) (has_where 64 (λ q. generated (64 * i + q)) j less) (has_where 64 (λ q. kept (64 * i + q)) j less)
      ∙ generated_is_kept (generated (64 * i + j)) (not (killed (64 * i + j)))
      ∙ sym (has_where 64 (λ q. generated (64 * i + q)) j less)))

  pub where_generates : (f : ℕ) → f < 64 * n → generates n (weight_where n generated killed) f ≡ generated f
  where_generates = facts_where n generated

  pub where_kills : (f : ℕ) → f < 64 * n → kills n (weight_where n generated killed) f ≡ (killed f && not (generated f))
  where_kills f below =
      ap₂ (λ x y. x && not y) (lt-ltb f (64 * n) below) (facts_where n kept f below)
      ∙ killed_alone (generated f) (killed f)

pub lists_make : (n : ℕ) (gens killed : List ℕ) → Makes n gens killed (weight_where n (is_listed gens) (is_listed killed))
lists_make n gens killed = record {
  leads_on = λ e. cc;
  generates_listed = where_generates n (is_listed gens) (is_listed killed);
  kills_listed = where_kills n (is_listed gens) (is_listed killed);
}

-- the weight of the masks that `make` puts together
pub made_where : (n : ℕ) (generated killed : ℕ → Bool) (g k both : List ℕ) → g ≡ mask_where n generated → k ≡ mask_where n killed
    → both ≡ or_mask n g (without n (replicate n (2 ^ 64 - 1)) k) → map_of n both g ≡ weight_where n generated killed
made_where n generated killed g k both e f is =
    maps_same n both (mask_where n (λ x. generated x || not (killed x))) g (mask_where n generated)
    (is ∙ ap₂ (λ x y. or_mask n x (without n (replicate n (2 ^ 64 - 1)) y)) e f ∙ kept_where n generated killed) e

pub made_fits : (n : ℕ) (generated killed : ℕ → Bool) (both g : List ℕ) → map_of n both g ≡ weight_where n generated killed → Fits (genkill_operations n) (map_of n both g)
made_fits n generated killed both g e = subst (Fits (genkill_operations n)) (sym e) (where_fits n generated killed)

pub made_makes : (n : ℕ) (gens killed : List ℕ) (both g : List ℕ) → map_of n both g ≡ weight_where n (is_listed gens) (is_listed killed) → Makes n gens killed (map_of n both g)
made_makes n gens killed both g e = subst (Makes n gens killed) (sym e) (lists_make n gens killed)
