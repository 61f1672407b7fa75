-- The copy of nodes of a table: the k-th reference that was copied is the k-th node of the copy.
use Rattle.std.specs.Prelude.{ℕ, ◌+◌, List, Option, option_map}
use Rattle.std.specs.Ordering.{nat_cmp}
use Rattle.key_rows.specs.Members.{number_of}
use Rattle.diagram_ops.specs.declared.table_copying.Copied.{Copied}

abbrev pub reference_of : Copied → ℕ
reference_of c = c.reference

-- the place of each reference that is copied
abbrev pub copied_at : List Copied → ℕ → Option ℕ
copied_at copied r = option_map (λ k. k + 2) (number_of nat_cmp reference_of r copied)
