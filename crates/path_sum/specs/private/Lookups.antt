-- Sets of symbols in which one is looked up.
use Rattle.std.specs.Prelude.{◌≡◌, ℕ, Bool, false, List, Some, length, slice_get, slice_index_or}
use Rattle.std.specs.List.Sorted.{IsNonDecreasing}
use Rattle.config_patterns.specs.declared.item.Item.{Item}
use Rattle.config_patterns.specs.Membership.{has_symbol}
use Rattle.path_sum.specs.declared.lookup.Lookup.{Lookup}
use Rattle.path_sum.specs.declared.lookup.Lookup.TheVariants.{Marks, Sorted}

-- those that have a mark are the symbols of the set
abbrev pub AreMarks : List Bool → List ℕ → Type 0
AreMarks marks set = (g : ℕ) → slice_index_or marks g false ≡ has_symbol g set

-- symbols that rise, and are those of the set
pub record IsSortedCopy (sorted set : List ℕ) : Type 0 where
  pub rise : IsNonDecreasing sorted
  pub same : (g : ℕ) → has_symbol g sorted ≡ has_symbol g set

-- it stands for the set
abbrev pub IsLookup : List ℕ → Lookup → Type 0
IsLookup set (Marks marks) = AreMarks marks.items set
IsLookup set (Sorted sorted) = IsSortedCopy sorted.items set

-- each that there is stands for the set of the item at its place
abbrev pub EachIsLookup : List Lookup → List Item → Type 0
EachIsLookup ls items = (k : ℕ) (l : Lookup) (y : Item) → slice_get ls k ≡ Some l → slice_get items k ≡ Some y → IsLookup y.set l

-- there is one for each item
abbrev pub AreLookups : List Lookup → List Item → Type 0
AreLookups ls items = (length ls ≡ length items) × EachIsLookup ls items
