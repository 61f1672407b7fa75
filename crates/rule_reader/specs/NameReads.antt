-- What reading names gives.
use Rattle.std.specs.Prelude.{◌≡◌, ℕ, false, List, map, length}
use Rattle.document_forms.specs.Names.{is_among, has_twice, has_unknown, number_in}
use Rattle.rule_reader.specs.declared.name_reads.NamesOnce.{NamesOnce}
use Rattle.rule_reader.specs.declared.name_reads.NamesRead.{NamesRead}

-- These names are read: how many they are, whether one is unknown, and if none is, their numbers.
pub record AreNumbersRead (table names : List (List ℕ)) (r : NamesRead) : Type 0 where
  pub count : length r.numbers.items ≡ length names
  pub unknown : r.unknown ≡ has_unknown table names
  pub numbers : r.unknown ≡ false → r.numbers.items ≡ map (number_in table) names

-- The names that were added are these, and one of them stands twice or none does.
pub record HasNames (names : List (List ℕ)) (once : NamesOnce) : Type 0 where
  pub seen : (x : List ℕ) → is_among once.seen x ≡ is_among names x
  pub twice : once.twice ≡ has_twice names
