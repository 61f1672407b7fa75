-- Entries in chains by buckets, from the newest to the oldest of each.
use Rattle.std.specs.Prelude.{◌≡◌, ℕ, zero, suc, ◌+◌, ◌*◌, ◌-◌, ◌/◌, ◌%◌, ◌^◌, ◌<◌, ◌≤◌, nat_eq, List, [], ◌∷◌, length, take, Some, slice_get, slice_index_or, if◌then◌else◌}
use Rattle.std.specs.Int.RustNames.{bit_and}
use Rattle.diagram_store.specs.declared.triple_chains.Entry.{Entry}

-- the bucket of three numbers, of so many
unfoldable pub bucket : ℕ → ℕ → ℕ → ℕ → ℕ
bucket count x y z =
    bit_and ((((x * 11400714819323198485) % 2 ^ 64 + (y * 13787848793156543929) % 2 ^ 64) % 2 ^ 64 + (z * 10723151780598845931) % 2 ^ 64) % 2 ^ 64 / 2 ^ 32) (count - 1)

abbrev pub bucket_of : ℕ → Entry → ℕ
bucket_of count e = bucket count e.x e.y e.z

abbrev pub later : ℕ → ℕ → ℕ
later zero k = k
later (suc i) k = suc (suc i)

-- where the last entry of a bucket stands: its place plus one, and 0 for none
abbrev pub newest : ℕ → ℕ → List Entry → ℕ
newest count b [] = 0
newest count b (e ∷ es) = later (newest count b es) (if nat_eq (bucket_of count e) b then 1 else 0)

-- a bucket without entries
abbrev pub IsBlank : ℕ → Type 0
IsBlank head = head ≡ 0

-- each bucket names its newest entry, and each entry the next older one of its bucket
pub record IsLinked (heads : List ℕ) (es : List Entry) : Type 0 where
  pub newest_at : (b : ℕ) → b < length heads → slice_index_or heads b 0 ≡ newest (length heads) b es
  pub older_at : (i : ℕ) (e : Entry) → slice_get es i ≡ Some e → e.older ≡ newest (length heads) (bucket_of (length heads) e) (take i es)

pub record IsChained (heads : List ℕ) (es : List Entry) : Type 0 where
  pub linked : IsLinked heads es
  pub room : length es ≤ length heads
