-- What reading a statement gives.
use Rattle.std.specs.Prelude.{◌≡◌, IsTrue, ℕ, Bool, false, not, ◌||◌, List, Option, Some, option_map, unwrap_or}
use Rattle.std.specs.List.{list_any}
use Rattle.truth_tables.specs.Grammar.{has_large_table}
use Rattle.document_forms.specs.Names.{has_twice, has_unknown}
use Rattle.program_forms.specs.Forms.{StatementForm}
use Rattle.program_forms.specs.Declared.{Whole, proc_named}
use Rattle.program_forms.specs.Above.{rules_by}
use Rattle.program_forms.specs.Kinds.{targets, variables, trees, is_deep, has_no_end, misfits_callee, misfits, leaves}
use Rattle.program_forms.specs.Programs.{statement_value}
use Rattle.program_statements.specs.declared.statements.StatementFaults.{StatementFaults}
use Rattle.program_statements.specs.declared.statements.StatementRead.{StatementRead}

-- nothing is amiss by which a statement has no value
abbrev pub has_value : StatementFaults → Bool
has_value f = not (f.unknown || (f.large || f.deep))

-- This statement was read, over these names, in a procedure that returns so many values and is the
-- last of so many that began. Whether an expression is too deep is told where no table is too large.
pub record HasStatement (w : Whole) (names : List (List ℕ)) (begun returns : ℕ)
    (s : StatementForm) (r : StatementRead) : Type 0 where
  pub twice : r.faults.twice ≡ has_twice (targets s)
  pub unknown : r.faults.unknown ≡ (has_unknown names (variables s) || has_no_end w s)
  pub large : r.faults.large ≡ list_any has_large_table (trees s)
  pub deep : r.faults.large ≡ false → r.faults.deep ≡ list_any is_deep (trees s)
  pub fits : r.faults.unknown ≡ false → r.faults.misfits ≡ misfits w returns s
  pub stays : r.faults.leaves ≡ leaves w begun s
  pub rules : r.rules ≡ rules_by s
  pub value : IsTrue (has_value r.faults) → r.statement ≡ statement_value w names s

abbrev pub IsReadAs :
    Whole → List (List ℕ) → (begun returns : ℕ) → StatementForm → Option StatementRead → Type 0
IsReadAs w names begun returns s read =
    (r : StatementRead) × (read ≡ Some r) × HasStatement w names begun returns s r

-- a call with so many targets and arguments does not fit its callee, if that is declared
abbrev pub call_misfits : Whole → List ℕ → (targets arguments : ℕ) → Bool
call_misfits w f targets arguments =
    unwrap_or (option_map (misfits_callee targets arguments) (proc_named w.procs f)) false
