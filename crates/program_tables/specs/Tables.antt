-- The tables of what a program's lines declare.
use Rattle.std.specs.Prelude.{◌≡◌, ℕ, List, [], ◌∷◌, length, Option, Some, None, option_map, bytes_eq, if◌then◌else◌}
use Rattle.program_forms.specs.Declared.{ProcHead, proc_named, LabelLine, label_named, Whole}
use Rattle.program_tables.specs.declared.rows.NamedRow.{NamedRow}
use Rattle.program_tables.specs.declared.rows.NamedRows.{NamedRows}
use Rattle.program_tables.specs.declared.tables.ProcRow.{ProcRow}
use Rattle.program_tables.specs.declared.tables.LabelRow.{LabelRow}
use Rattle.program_tables.specs.declared.tables.Tables.{Tables}

abbrev pub proc_row : ProcHead → ProcRow
proc_row p = record { place = p.place; params = length p.params; returns = p.returns }

abbrev pub label_row : LabelLine → LabelRow
label_row l = record { line = l.line; begun = l.begun; asserts = l.asserts }

-- the row of a name, the last that has it
abbrev pub row_at : {Row : Type 0} → List (NamedRow Row) → List ℕ → Option Row
row_at [] x = None
row_at (r ∷ rs) x = elim (row_at rs x) [
  | Some row ↦ Some row
  | None ↦ if bytes_eq x r.name.now then Some r.row else None
]

-- what rows have at a name
abbrev pub at_name : {Row : Type 0} → NamedRows Row → List ℕ → Option Row
at_name rows x = row_at rows.rows.members x

-- The tables have what is declared.
pub record AreTablesOf (w : Whole) (t : Tables) : Type 0 where
  pub globals : t.globals ≡ w.globals
  pub procs : (f : List ℕ) → at_name t.procs f ≡ option_map proc_row (proc_named w.procs f)
  pub labels : (x : List ℕ) → at_name t.labels x ≡ option_map label_row (label_named w.labels x)
  pub slots : t.slots ≡ w.slots
