-- The semiring of gen-kill weights: the functions x -> (x & keep) | gens on sets of 64 n facts, and zero for no run.
use Rattle.std.specs.Prelude.{ℕ, ◌+◌, ◌-◌, ◌*◌, ◌^◌, Bool, true, false, ◌&&◌, List, bit_and, bit_or}
use Rattle.semiring_laws.specs.Semiring.{Operations}
use Rattle.genkill_weights.specs.Masks.{tabulate, word, is_mask, is_within, same_mask, outside}
use Rattle.genkill_weights.specs.declared.weight.GenKillW.{GenKillW}
use Rattle.genkill_weights.specs.declared.weight.GenKillW.TheVariants.{Zero, Map}
use Rattle.genkill_weights.specs.declared.weight.MaskMap.{MaskMap}
use Rattle.genkill_weights.specs.declared.weight.MaskMap.TheVariants.{Plain, Restore}

-- the facts of either mask
abbrev pub or_mask : ℕ → List ℕ → List ℕ → List ℕ
or_mask n a b = tabulate n (λ i. bit_or (word a i) (word b i))

-- what is generated where first `g` is, and then `k` is kept and `h` generated
abbrev pub gens_word : ℕ → ℕ → ℕ → ℕ
gens_word g k h = bit_or (bit_and g k) h

-- what is kept where first `k` is kept and `g` generated, then `l` kept and `h` generated: what both keep, and all that
-- is generated
abbrev pub keep_word : ℕ → ℕ → ℕ → ℕ → ℕ
keep_word k g l h = bit_or (bit_and k l) (gens_word g l h)

abbrev pub gens_then : ℕ → List ℕ → List ℕ → List ℕ → List ℕ
gens_then n g l h = tabulate n (λ i. gens_word (word g i) (word l i) (word h i))

abbrev pub keep_then : ℕ → List ℕ → List ℕ → List ℕ → List ℕ → List ℕ
keep_then n k g l h = tabulate n (λ i. keep_word (word k i) (word g i) (word l i) (word h i))

-- the facts of the first mask that are not in the second
abbrev pub without : ℕ → List ℕ → List ℕ → List ℕ
without n a b = tabulate n (λ i. bit_and (word a i) (2 ^ 64 - 1 - word b i))

abbrev pub all_facts : ℕ → List ℕ
all_facts n = tabulate n (λ i. 2 ^ 64 - 1)

abbrev pub no_facts : ℕ → List ℕ
no_facts n = tabulate n (λ i. 0)

-- one run or another: the union of both masks; zero is neutral
abbrev pub united : (n : ℕ) → GenKillW n → GenKillW n → GenKillW n
united n Zero b = b
united n (Map k g) Zero = Map k g
united n (Map k g) (Map l h) = Map (or_mask n k l) (or_mask n g h)

-- one run, then another
abbrev pub followed : (n : ℕ) → GenKillW n → GenKillW n → GenKillW n
followed n Zero b = Zero
followed n (Map k g) Zero = Zero
followed n (Map k g) (Map l h) = Map (keep_then n k g l h) (gens_then n g l h)

-- restored facts are kept and not generated: they are as before the call
abbrev pub after_of : (n : ℕ) → MaskMap n → GenKillW n → GenKillW n
after_of n Plain w = w
after_of n (Restore facts) Zero = Zero
after_of n (Restore facts) (Map k g) = Map (or_mask n k facts) (without n g facts)

abbrev pub same_weight : (n : ℕ) → GenKillW n → GenKillW n → Bool
same_weight n Zero Zero = true
same_weight n Zero (Map k g) = false
same_weight n (Map k g) Zero = false
same_weight n (Map k g) (Map l h) = same_mask k l && same_mask g h

-- masks of n words, and what is generated is kept
abbrev pub weight_fits : (n : ℕ) → GenKillW n → Bool
weight_fits n Zero = true
weight_fits n (Map k g) = is_mask n k && (is_mask n g && is_within n g k)

abbrev pub map_fits : (n : ℕ) → MaskMap n → Bool
map_fits n Plain = true
map_fits n (Restore facts) = is_mask n facts

-- how many facts are outside keep, and how many outside gens; one more than all of them for no run
abbrev pub weight_rank : (n : ℕ) → GenKillW n → ℕ
weight_rank n Zero = 2 * (64 * n) + 1
weight_rank n (Map k g) = outside (64 * n) k + outside (64 * n) g

abbrev pub genkill_operations : (n : ℕ) → Operations (GenKillW n) (MaskMap n)
genkill_operations n = record {
  zero = Zero;
  one = Map (all_facts n) (no_facts n);
  combine = united n;
  extend = followed n;
  after = after_of n;
  plain = Plain;
  same = same_weight n;
  fits = weight_fits n;
  fits_map = map_fits n;
  rank = weight_rank n;
  top_rank = 2 * (64 * n) + 1;
}
