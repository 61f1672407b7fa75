-- Facts that runs keep and generate are a semiring, whatever the width.
use Rattle.std.proofs.Common.{◌≡◌, ◌≢◌, ℕ, ◌-◌, ◌*◌, ◌/◌, ◌%◌, ◌^◌, ◌<◌, ◌≤◌, ◌↔◌, ◌&&◌, List, [], refl, sym, ap, ap₂, ◌∙◌, inl, inr, arith}
use Rattle.std.specs.Prelude.{IsTrue, bit_and, bit_or}
use Rattle.std.proofs.lemmas.Nat.{or_comm}
use Rattle.std.proofs.lemmas.Bool.{cases_lt, and_parts, and_from, or_left}
use Rattle.semiring_laws.specs.Semiring.{IsSemiring}
use Rattle.genkill_weights.specs.declared.weight.GenKillW.{GenKillW}
use Rattle.genkill_weights.specs.declared.weight.GenKillW.TheVariants.{Zero, Map}
use Rattle.genkill_weights.specs.declared.weight.MaskMap.{MaskMap}
use Rattle.genkill_weights.specs.declared.weight.MaskMap.TheVariants.{Plain, Restore}
use Rattle.genkill_weights.specs.Masks.{tabulate, word, has, fact, is_mask, is_within, same_mask, outside}
use Rattle.genkill_weights.specs.private.MaskLaws.{has_or, word_tabulate, tabulate_same, mask_tabulate, mask_by_words, mask_word, within_word, within_tabulate, same_masks, outside_at_most, outside_same, outside_within, masks_by_facts}
use Rattle.genkill_weights.specs.private.WordLaws.{word_or_assoc, word_or_same, gens_assoc, keep_assoc, gens_right, keep_right, gens_left, keep_left, or_or, and-or_left, gens_within, union_within, restored_within, gens_one_left, keep_one_left, gens_one_right, keep_one_right, or_below, and_below}
use Rattle.genkill_weights.specs.GenKill.{or_mask, gens_word, keep_word, gens_then, keep_then, without, all_facts, no_facts, united, followed, after_of, same_weight, weight_fits, map_fits, weight_rank, genkill_operations}

abbrev pub map_of : (n : ℕ) → List ℕ → List ℕ → GenKillW n
map_of n k g = Map k g

pub maps_same : (n : ℕ) (k l g h : List ℕ) → k ≡ l → g ≡ h → map_of n k g ≡ map_of n l h
maps_same n k l g h e f = ap₂ (map_of n) e f

-- ---- what a weight that fits has

module _ (n : ℕ) (k g : List ℕ) (fit : IsTrue (is_mask n k && (is_mask n g && is_within n g k))) where
  pub keep_mask : IsTrue (is_mask n k)
  keep_mask = (and_parts (is_mask n k) (is_mask n g && is_within n g k) fit).0

  pub gens_mask : IsTrue (is_mask n g)
  gens_mask = (and_parts (is_mask n g) (is_within n g k) (and_parts (is_mask n k) (is_mask n g && is_within n g k) fit).1).0

  pub gens_kept : IsTrue (is_within n g k)
  gens_kept = (and_parts (is_mask n g) (is_within n g k) (and_parts (is_mask n k) (is_mask n g && is_within n g k) fit).1).1

pub fits_from : (n : ℕ) (k g : ℕ → ℕ) → ((i : ℕ) → i < n → k i < 2 ^ 64) → ((i : ℕ) → i < n → g i < 2 ^ 64) → ((i : ℕ) → i < n → bit_and (g i) (k i) ≡ g i)
    → IsTrue (weight_fits n (Map (tabulate n k) (tabulate n g)))
fits_from n k g hk hg w =
    and_from (is_mask n (tabulate n k)) (is_mask n (tabulate n g) && is_within n (tabulate n g) (tabulate n k)) (mask_tabulate n k hk)
    (and_from (is_mask n (tabulate n g)) (is_within n (tabulate n g) (tabulate n k)) (mask_tabulate n g hg) (within_tabulate n g k w))

-- ---- fits

all_below : 2 ^ 64 - 1 < 2 ^ 64
all_below = omega arith

fits-one : (n : ℕ) → IsTrue (weight_fits n (Map (all_facts n) (no_facts n)))
fits-one n = fits_from n (λ i. 2 ^ 64 - 1) (λ i. 0) (λ i b. all_below) (λ i b. omega arith) (λ i b. refl)

fits-united : (n : ℕ) (a b : GenKillW n) → IsTrue (weight_fits n a) → IsTrue (weight_fits n b) → IsTrue (weight_fits n (united n a b))
fits-united n Zero b fa fb = fb
fits-united n (Map k g) Zero fa fb = fa
fits-united n (Map k g) (Map l h) fa fb =
    fits_from n (λ i. bit_or (word k i) (word l i)) (λ i. bit_or (word g i) (word h i))
    (λ i b. or_below (word k i) (word l i) (mask_word n k (keep_mask n k g fa) i b) (mask_word n l (keep_mask n l h fb) i b))
    (λ i b. or_below (word g i) (word h i) (mask_word n g (gens_mask n k g fa) i b) (mask_word n h (gens_mask n l h fb) i b))
    (λ i b. union_within (word g i) (word k i) (word h i) (word l i) (within_word n g k (gens_kept n k g fa) i b) (within_word n h l (gens_kept n l h fb) i b))

fits-followed : (n : ℕ) (a b : GenKillW n) → IsTrue (weight_fits n a) → IsTrue (weight_fits n b) → IsTrue (weight_fits n (followed n a b))
fits-followed n Zero b fa fb = refl
fits-followed n (Map k g) Zero fa fb = refl
fits-followed n (Map k g) (Map l h) fa fb =
    let small = λ (i : ℕ) (b : i < n). or_below (bit_and (word g i) (word l i)) (word h i) (and_below (word g i) (word l i) (mask_word n g (gens_mask n k g fa) i b)) (mask_word n h (gens_mask n l h fb) i b) in
    fits_from n (λ i. keep_word (word k i) (word g i) (word l i) (word h i)) (λ i. gens_word (word g i) (word l i) (word h i))
    (λ i b. or_below (bit_and (word k i) (word l i)) (gens_word (word g i) (word l i) (word h i)) (and_below (word k i) (word l i) (mask_word n k (keep_mask n k g fa) i b)) (small i b))
    small
    (λ i b. gens_within (word k i) (word l i) (word g i) (word h i))

fits-after : (n : ℕ) (m : MaskMap n) (a : GenKillW n) → IsTrue (map_fits n m) → IsTrue (weight_fits n a) → IsTrue (weight_fits n (after_of n m a))
fits-after n Plain a fm fa = fa
fits-after n (Restore facts) Zero fm fa = refl
fits-after n (Restore facts) (Map k g) fm fa =
    fits_from n (λ i. bit_or (word k i) (word facts i)) (λ i. bit_and (word g i) (2 ^ 64 - 1 - word facts i))
    (λ i b. or_below (word k i) (word facts i) (mask_word n k (keep_mask n k g fa) i b) (mask_word n facts fm i b))
    (λ i b. and_below (word g i) (2 ^ 64 - 1 - word facts i) (mask_word n g (gens_mask n k g fa) i b))
    (λ i b. restored_within (word g i) (word k i) (2 ^ 64 - 1 - word facts i) (word facts i) (within_word n g k (gens_kept n k g fa) i b))

-- the masks of a weight
abbrev keep_of : (n : ℕ) → GenKillW n → List ℕ
keep_of n Zero = []
keep_of n (Map k g) = k

abbrev gens_of : (n : ℕ) → GenKillW n → List ℕ
gens_of n Zero = []
gens_of n (Map k g) = g

keep_same : (n : ℕ) (k l g h : List ℕ) → map_of n k g ≡ map_of n l h → k ≡ l
keep_same n k l g h e = ap (keep_of n) e

gens_same : (n : ℕ) (k l g h : List ℕ) → map_of n k g ≡ map_of n l h → g ≡ h
gens_same n k l g h e = ap (gens_of n) e

same_is_equal : (n : ℕ) (a b : GenKillW n) → IsTrue (same_weight n a b) ↔ (a ≡ b)
same_is_equal n Zero Zero = (λ _. refl, λ _. refl)
same_is_equal n Zero (Map k g) = (λ h. cc, λ e. cc)
same_is_equal n (Map k g) Zero = (λ h. cc, λ e. cc)
same_is_equal n (Map k g) (Map l h) = (
  λ yes. let parts = and_parts (same_mask k l) (same_mask g h) yes in maps_same n k l g h ((same_masks k l).0 parts.0) ((same_masks g h).0 parts.1),
  λ e. and_from (same_mask k l) (same_mask g h) ((same_masks k l).1 (keep_same n k l g h e)) ((same_masks g h).1 (gens_same n k l g h e)),
)

-- ---- combine

or_mask_comm : (n : ℕ) (a b : List ℕ) → or_mask n a b ≡ or_mask n b a
or_mask_comm n a b = tabulate_same n (λ i. bit_or (word a i) (word b i)) (λ i. bit_or (word b i) (word a i)) (λ i below. or_comm (word a i) (word b i))

or_mask_assoc : (n : ℕ) (a b c : List ℕ) → or_mask n (or_mask n a b) c ≡ or_mask n a (or_mask n b c)
or_mask_assoc n a b c = tabulate_same n (λ i. bit_or (word (or_mask n a b) i) (word c i)) (λ i. bit_or (word a i) (word (or_mask n b c) i)) (λ i below.
    ap (λ w. bit_or w (word c i)) (word_tabulate n (λ j. bit_or (word a j) (word b j)) i below)
    ∙ word_or_assoc (word a i) (word b i) (word c i)
    ∙ ap (bit_or (word a i)) (sym (word_tabulate n (λ j. bit_or (word b j) (word c j)) i below)))

or_mask_itself : (n : ℕ) (a : List ℕ) → IsTrue (is_mask n a) → or_mask n a a ≡ a
or_mask_itself n a h = mask_by_words n (λ i. bit_or (word a i) (word a i)) a h (λ i below. word_or_same (word a i))

united_comm : (n : ℕ) (a b : GenKillW n) → united n a b ≡ united n b a
united_comm n Zero Zero = refl
united_comm n Zero (Map k g) = refl
united_comm n (Map k g) Zero = refl
united_comm n (Map k g) (Map l h) = maps_same n (or_mask n k l) (or_mask n l k) (or_mask n g h) (or_mask n h g) (or_mask_comm n k l) (or_mask_comm n g h)

united_assoc : (n : ℕ) (a b c : GenKillW n) → united n (united n a b) c ≡ united n a (united n b c)
united_assoc n Zero b c = refl
united_assoc n (Map k g) Zero c = refl
united_assoc n (Map k g) (Map l h) Zero = refl
united_assoc n (Map k g) (Map l h) (Map m i) =
    maps_same n (or_mask n (or_mask n k l) m) (or_mask n k (or_mask n l m)) (or_mask n (or_mask n g h) i) (or_mask n g (or_mask n h i)) (or_mask_assoc n k l m) (or_mask_assoc n g h i)

united_same : (n : ℕ) (a : GenKillW n) → IsTrue (weight_fits n a) → united n a a ≡ a
united_same n Zero fa = refl
united_same n (Map k g) fa = maps_same n (or_mask n k k) k (or_mask n g g) g (or_mask_itself n k (keep_mask n k g fa)) (or_mask_itself n g (gens_mask n k g fa))

-- ---- extend

module _ (n : ℕ) (k g l h m j : List ℕ) where
  gens_three : gens_then n (gens_then n g l h) m j ≡ gens_then n g (keep_then n l h m j) (gens_then n h m j)
  gens_three = tabulate_same n (λ i. gens_word (word (gens_then n g l h) i) (word m i) (word j i)) (λ i. gens_word (word g i) (word (keep_then n l h m j) i) (word (gens_then n h m j) i)) (λ i below.
      ap (λ w. gens_word w (word m i) (word j i)) (word_tabulate n (λ q. gens_word (word g q) (word l q) (word h q)) i below)
      ∙ gens_assoc (word g i) (word l i) (word h i) (word m i) (word j i)
      ∙ sym (ap₂ (λ u v. gens_word (word g i) u v) (word_tabulate n (λ q. keep_word (word l q) (word h q) (word m q) (word j q)) i below) (word_tabulate n (λ q. gens_word (word h q) (word m q) (word j q)) i below)))

  keep_three : keep_then n (keep_then n k g l h) (gens_then n g l h) m j ≡ keep_then n k g (keep_then n l h m j) (gens_then n h m j)
  keep_three = tabulate_same n (λ i. keep_word (word (keep_then n k g l h) i) (word (gens_then n g l h) i) (word m i) (word j i))
      (λ i. keep_word (word k i) (word g i) (word (keep_then n l h m j) i) (word (gens_then n h m j) i)) (λ i below.
      ap₂ (λ u v. keep_word u v (word m i) (word j i)) (word_tabulate n (λ q. keep_word (word k q) (word g q) (word l q) (word h q)) i below) (word_tabulate n (λ q. gens_word (word g q) (word l q) (word h q)) i below)
      ∙ keep_assoc (word k i) (word g i) (word l i) (word h i) (word m i) (word j i)
      ∙ sym (ap₂ (λ u v. keep_word (word k i) (word g i) u v) (word_tabulate n (λ q. keep_word (word l q) (word h q) (word m q) (word j q)) i below) (word_tabulate n (λ q. gens_word (word h q) (word m q) (word j q)) i below)))

  -- the second and the third united
  gens_of_union : gens_then n g (or_mask n l m) (or_mask n h j) ≡ or_mask n (gens_then n g l h) (gens_then n g m j)
  gens_of_union = tabulate_same n (λ i. gens_word (word g i) (word (or_mask n l m) i) (word (or_mask n h j) i)) (λ i. bit_or (word (gens_then n g l h) i) (word (gens_then n g m j) i)) (λ i below.
      ap₂ (λ u v. gens_word (word g i) u v) (word_tabulate n (λ q. bit_or (word l q) (word m q)) i below) (word_tabulate n (λ q. bit_or (word h q) (word j q)) i below)
      ∙ gens_right (word g i) (word l i) (word m i) (word h i) (word j i)
      ∙ sym (ap₂ bit_or (word_tabulate n (λ q. gens_word (word g q) (word l q) (word h q)) i below) (word_tabulate n (λ q. gens_word (word g q) (word m q) (word j q)) i below)))

  keep_of_union : keep_then n k g (or_mask n l m) (or_mask n h j) ≡ or_mask n (keep_then n k g l h) (keep_then n k g m j)
  keep_of_union = tabulate_same n (λ i. keep_word (word k i) (word g i) (word (or_mask n l m) i) (word (or_mask n h j) i)) (λ i. bit_or (word (keep_then n k g l h) i) (word (keep_then n k g m j) i)) (λ i below.
      ap₂ (λ u v. keep_word (word k i) (word g i) u v) (word_tabulate n (λ q. bit_or (word l q) (word m q)) i below) (word_tabulate n (λ q. bit_or (word h q) (word j q)) i below)
      ∙ keep_right (word k i) (word g i) (word l i) (word m i) (word h i) (word j i)
      ∙ sym (ap₂ bit_or (word_tabulate n (λ q. keep_word (word k q) (word g q) (word l q) (word h q)) i below) (word_tabulate n (λ q. keep_word (word k q) (word g q) (word m q) (word j q)) i below)))

  -- the first and the second united
  gens_by_union : gens_then n (or_mask n g h) m j ≡ or_mask n (gens_then n g m j) (gens_then n h m j)
  gens_by_union = tabulate_same n (λ i. gens_word (word (or_mask n g h) i) (word m i) (word j i)) (λ i. bit_or (word (gens_then n g m j) i) (word (gens_then n h m j) i)) (λ i below.
      ap (λ w. gens_word w (word m i) (word j i)) (word_tabulate n (λ q. bit_or (word g q) (word h q)) i below)
      ∙ gens_left (word g i) (word h i) (word m i) (word j i)
      ∙ sym (ap₂ bit_or (word_tabulate n (λ q. gens_word (word g q) (word m q) (word j q)) i below) (word_tabulate n (λ q. gens_word (word h q) (word m q) (word j q)) i below)))

  keep_by_union : keep_then n (or_mask n k l) (or_mask n g h) m j ≡ or_mask n (keep_then n k g m j) (keep_then n l h m j)
  keep_by_union = tabulate_same n (λ i. keep_word (word (or_mask n k l) i) (word (or_mask n g h) i) (word m i) (word j i)) (λ i. bit_or (word (keep_then n k g m j) i) (word (keep_then n l h m j) i)) (λ i below.
      ap₂ (λ u v. keep_word u v (word m i) (word j i)) (word_tabulate n (λ q. bit_or (word k q) (word l q)) i below) (word_tabulate n (λ q. bit_or (word g q) (word h q)) i below)
      ∙ keep_left (word k i) (word l i) (word g i) (word h i) (word m i) (word j i)
      ∙ sym (ap₂ bit_or (word_tabulate n (λ q. keep_word (word k q) (word g q) (word m q) (word j q)) i below) (word_tabulate n (λ q. keep_word (word l q) (word h q) (word m q) (word j q)) i below)))

followed_assoc : (n : ℕ) (a b c : GenKillW n) → followed n (followed n a b) c ≡ followed n a (followed n b c)
followed_assoc n Zero b c = refl
followed_assoc n (Map k g) Zero c = refl
followed_assoc n (Map k g) (Map l h) Zero = refl
followed_assoc n (Map k g) (Map l h) (Map m j) =
    maps_same n (keep_then n (keep_then n k g l h) (gens_then n g l h) m j) (keep_then n k g (keep_then n l h m j) (gens_then n h m j))
    (gens_then n (gens_then n g l h) m j) (gens_then n g (keep_then n l h m j) (gens_then n h m j)) (keep_three n k g l h m j) (gens_three n k g l h m j)

followed_right : (n : ℕ) (a b c : GenKillW n) → followed n a (united n b c) ≡ united n (followed n a b) (followed n a c)
followed_right n Zero b c = refl
followed_right n (Map k g) Zero c = refl
followed_right n (Map k g) (Map l h) Zero = refl
followed_right n (Map k g) (Map l h) (Map m j) =
    maps_same n (keep_then n k g (or_mask n l m) (or_mask n h j)) (or_mask n (keep_then n k g l h) (keep_then n k g m j))
    (gens_then n g (or_mask n l m) (or_mask n h j)) (or_mask n (gens_then n g l h) (gens_then n g m j)) (keep_of_union n k g l h m j) (gens_of_union n k g l h m j)

followed_left : (n : ℕ) (a b c : GenKillW n) → followed n (united n a b) c ≡ united n (followed n a c) (followed n b c)
followed_left n Zero b c = refl
followed_left n (Map k g) Zero Zero = refl
followed_left n (Map k g) Zero (Map m j) = refl
followed_left n (Map k g) (Map l h) Zero = refl
followed_left n (Map k g) (Map l h) (Map m j) =
    maps_same n (keep_then n (or_mask n k l) (or_mask n g h) m j) (or_mask n (keep_then n k g m j) (keep_then n l h m j))
    (gens_then n (or_mask n g h) m j) (or_mask n (gens_then n g m j) (gens_then n h m j)) (keep_by_union n k g l h m j) (gens_by_union n k g l h m j)

followed_zero : (n : ℕ) (a : GenKillW n) → followed n a Zero ≡ Zero
followed_zero n Zero = refl
followed_zero n (Map k g) = refl

one_left : (n : ℕ) (a : GenKillW n) → IsTrue (weight_fits n a) → followed n (Map (all_facts n) (no_facts n)) a ≡ a
one_left n Zero fa = refl
one_left n (Map k g) fa =
    let top = λ (i : ℕ) (b : i < n). word_tabulate n (λ j. 2 ^ 64 - 1) i b in
    let none = λ (i : ℕ) (b : i < n). word_tabulate n (λ j. 0) i b in
    maps_same n (keep_then n (all_facts n) (no_facts n) k g) k (gens_then n (no_facts n) k g) g
    (mask_by_words n (λ i. keep_word (word (all_facts n) i) (word (no_facts n) i) (word k i) (word g i)) k (keep_mask n k g fa) (λ i b.
    ap₂ (λ u v. keep_word u v (word k i) (word g i)) (top i b) (none i b) ∙ keep_one_left (word k i) (word g i) (mask_word n k (keep_mask n k g fa) i b) (within_word n g k (gens_kept n k g fa) i b)))
    (mask_by_words n (λ i. gens_word (word (no_facts n) i) (word k i) (word g i)) g (gens_mask n k g fa) (λ i b.
    ap (λ u. gens_word u (word k i) (word g i)) (none i b) ∙ gens_one_left (word k i) (word g i)))

one_right : (n : ℕ) (a : GenKillW n) → IsTrue (weight_fits n a) → followed n a (Map (all_facts n) (no_facts n)) ≡ a
one_right n Zero fa = refl
one_right n (Map k g) fa =
    let top = λ (i : ℕ) (b : i < n). word_tabulate n (λ j. 2 ^ 64 - 1) i b in
    let none = λ (i : ℕ) (b : i < n). word_tabulate n (λ j. 0) i b in
    maps_same n (keep_then n k g (all_facts n) (no_facts n)) k (gens_then n g (all_facts n) (no_facts n)) g
    (mask_by_words n (λ i. keep_word (word k i) (word g i) (word (all_facts n) i) (word (no_facts n) i)) k (keep_mask n k g fa) (λ i b.
    ap₂ (λ u v. keep_word (word k i) (word g i) u v) (top i b) (none i b)
    ∙ keep_one_right (word k i) (word g i) (mask_word n k (keep_mask n k g fa) i b) (mask_word n g (gens_mask n k g fa) i b) (within_word n g k (gens_kept n k g fa) i b)))
    (mask_by_words n (λ i. gens_word (word g i) (word (all_facts n) i) (word (no_facts n) i)) g (gens_mask n k g fa) (λ i b.
    ap₂ (λ u v. gens_word (word g i) u v) (top i b) (none i b) ∙ gens_one_right (word g i) (mask_word n g (gens_mask n k g fa) i b)))

-- ---- return maps

after-united : (n : ℕ) (m : MaskMap n) (a b : GenKillW n) → after_of n m (united n a b) ≡ united n (after_of n m a) (after_of n m b)
after-united n Plain a b = refl
after-united n (Restore facts) Zero b = refl
after-united n (Restore facts) (Map k g) Zero = refl
after-united n (Restore facts) (Map k g) (Map l h) =
    maps_same n (or_mask n (or_mask n k l) facts) (or_mask n (or_mask n k facts) (or_mask n l facts)) (without n (or_mask n g h) facts) (or_mask n (without n g facts) (without n h facts))
    (tabulate_same n (λ i. bit_or (word (or_mask n k l) i) (word facts i)) (λ i. bit_or (word (or_mask n k facts) i) (word (or_mask n l facts) i)) (λ i b.
    ap (λ w. bit_or w (word facts i)) (word_tabulate n (λ j. bit_or (word k j) (word l j)) i b)
    ∙ or_or (word k i) (word l i) (word facts i)
    ∙ sym (ap₂ bit_or (word_tabulate n (λ j. bit_or (word k j) (word facts j)) i b) (word_tabulate n (λ j. bit_or (word l j) (word facts j)) i b))))
    (tabulate_same n (λ i. bit_and (word (or_mask n g h) i) (2 ^ 64 - 1 - word facts i)) (λ i. bit_or (word (without n g facts) i) (word (without n h facts) i)) (λ i b.
    ap (λ w. bit_and w (2 ^ 64 - 1 - word facts i)) (word_tabulate n (λ j. bit_or (word g j) (word h j)) i b)
    ∙ and-or_left (word g i) (word h i) (2 ^ 64 - 1 - word facts i)
    ∙ sym (ap₂ bit_or (word_tabulate n (λ j. bit_and (word g j) (2 ^ 64 - 1 - word facts j)) i b) (word_tabulate n (λ j. bit_and (word h j) (2 ^ 64 - 1 - word facts j)) i b))))

after-zero : (n : ℕ) (m : MaskMap n) → after_of n m Zero ≡ Zero
after-zero n Plain = refl
after-zero n (Restore facts) = refl

-- ---- the rank

fact_of_union : (n : ℕ) (a b : List ℕ) (f : ℕ) → f < 64 * n → IsTrue (fact a f) → IsTrue (fact (or_mask n a b) f)
fact_of_union n a b f below h =
    let within : f / 64 < n = omega arith in
    ap (λ w. has w (f % 64)) (word_tabulate n (λ i. bit_or (word a i) (word b i)) (f / 64) within)
    ∙ has_or (word a (f / 64)) (word b (f / 64)) (f % 64)
    ∙ or_left (fact a f) (has (word b (f / 64)) (f % 64)) h

rank_never_rises : (n : ℕ) (a b : GenKillW n) → weight_rank n (united n a b) ≤ weight_rank n a
rank_never_rises n Zero Zero = omega arith
rank_never_rises n Zero (Map l h) = let p = outside_within (64 * n) l in let q = outside_within (64 * n) h in omega (arith, p, q)
rank_never_rises n (Map k g) Zero = omega arith
rank_never_rises n (Map k g) (Map l h) =
    let p = outside_at_most (64 * n) k (or_mask n k l) (fact_of_union n k l) in
    let q = outside_at_most (64 * n) g (or_mask n g h) (fact_of_union n g h) in
    omega (arith, p, q)

rank_falls : (n : ℕ) (a b : GenKillW n) → IsTrue (weight_fits n a) → IsTrue (weight_fits n b) → united n a b ≢ a → weight_rank n (united n a b) < weight_rank n a
rank_falls n Zero Zero fa fb differs = absurd (differs refl)
rank_falls n Zero (Map l h) fa fb differs = let p = outside_within (64 * n) l in let q = outside_within (64 * n) h in omega (arith, p, q)
rank_falls n (Map k g) Zero fa fb differs = absurd (differs refl)
rank_falls n (Map k g) (Map l h) fa fb differs = elim (cases_lt (weight_rank n (Map (or_mask n k l) (or_mask n g h))) (weight_rank n (Map k g))) [
  | inl less ↦ less
  | inr more ↦
      let p = outside_at_most (64 * n) k (or_mask n k l) (fact_of_union n k l) in
      let q = outside_at_most (64 * n) g (or_mask n g h) (fact_of_union n g h) in
      let u = fits-united n (Map k g) (Map l h) fa fb in
      let same_k : outside (64 * n) (or_mask n k l) ≡ outside (64 * n) k = omega (arith, p, q, more) in
      let same_g : outside (64 * n) (or_mask n g h) ≡ outside (64 * n) g = omega (arith, p, q, more) in
      absurd (differs (maps_same n (or_mask n k l) k (or_mask n g h) g
      (masks_by_facts n (or_mask n k l) k (keep_mask n (or_mask n k l) (or_mask n g h) u) (keep_mask n k g fa) (λ f b. sym (outside_same (64 * n) k (or_mask n k l) (fact_of_union n k l) same_k f b)))
      (masks_by_facts n (or_mask n g h) g (gens_mask n (or_mask n k l) (or_mask n g h) u) (gens_mask n k g fa) (λ f b. sym (outside_same (64 * n) g (or_mask n g h) (fact_of_union n g h) same_g f b)))))
]

pub genkill_laws : (n : ℕ) → IsSemiring (genkill_operations n)
genkill_laws n = record {
  fits-zero = refl;
  fits-one = fits-one n;
  fits-plain = refl;
  fits-combine = fits-united n;
  fits-extend = fits-followed n;
  fits-after = fits-after n;
  same_is_equal = λ a b _ _. same_is_equal n a b;
  combine_comm = λ a b _ _. united_comm n a b;
  combine_assoc = λ a b c _ _ _. united_assoc n a b c;
  combine_same = united_same n;
  combine_zero = λ a _. refl;
  extend_assoc = λ a b c _ _ _. followed_assoc n a b c;
  extend-one_left = one_left n;
  extend-one_right = one_right n;
  extend-zero_left = λ a _. refl;
  extend-zero_right = λ a _. followed_zero n a;
  extend-combine_right = λ a b c _ _ _. followed_right n a b c;
  extend-combine_left = λ a b c _ _ _. followed_left n a b c;
  one_is_not_zero = λ e. cc;
  rank-zero = refl;
  rank_never_rises = λ a b _ _. rank_never_rises n a b;
  rank_falls = rank_falls n;
  after-zero = λ m _. after-zero n m;
  after-combine = λ m a b _ _ _. after-united n m a b;
  after-plain = λ a _. refl;
}
