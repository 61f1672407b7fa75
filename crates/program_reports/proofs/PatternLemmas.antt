-- The items of the patterns are not refused.
use Rattle.std.proofs.Common.{◌≡◌, ℕ, zero, suc, ◌+◌, ◌*◌, ◌<◌, ◌≤◌, true, false, [], ◌∷◌, ◌++◌, length, refl, arith}
use Rattle.std.specs.Prelude.{nat_le, nat_lt, None}
use Rattle.std.specs.List.{list_any, range_with_len}
use Rattle.std.proofs.lemmas.Bool.Decides.{nat_tests}
use Rattle.std.proofs.lemmas.List.FromFn.{length-range_with_len}
use Rattle.config_patterns.specs.declared.item.Item.{Item}
use Rattle.config_patterns.specs.Edges.{edges_of}
use Rattle.config_patterns.specs.Fault.{item_fault}
use Rattle.config_patterns.proofs.CallerLemmas.{count_push}
use Rattle.program_reports.specs.private.Patterns.{alone}

-- ---- all are below their number

below : (n g : ℕ) → g < n → nat_le n g ≡ false
below n g low = grind (arith, nat_tests)

all_below : (n a k : ℕ) → a + k ≤ n → list_any (λ g. nat_le n g) (range_with_len a k) ≡ false
all_below n a zero low = refl
all_below n a (suc k) low = rw (below n a (omega arith), all_below n (a + 1) k (omega arith)) refl

-- ---- no item is refused

few_edges : (n g : ℕ) → n ≤ 40000 → nat_lt 1000000 (length (edges_of ((alone n g).items ++ record { set = range_with_len 0 n; star = true } ∷ []))) ≡ false
few_edges n g few =
    let all : Item = record { set = range_with_len 0 n; star = true } in
    let count : length (edges_of ((alone n g).items ++ all ∷ [])) ≡ 1 + length (range_with_len 0 n) * 2 = count_push all (alone n g).items in
    let size = length-range_with_len 0 n in
    grind (arith, nat_tests)

pub all_accepted : (n g : ℕ) → n ≤ 40000 → item_fault (alone n g) (range_with_len 0 n) true ≡ None
all_accepted n g few = rw (all_below n 0 n (omega arith), few_edges n g few) refl
