-- What the reading of a program makes sure of, as far as the machine and the lowering need it.
use Rattle.std.specs.Prelude.{◌≡◌, ℕ, ◌+◌, ◌<◌, Bool, true, false, not, ◌&&◌, ◌||◌, nat_eq, nat_lt, IsTrue, List, [], ◌∷◌, length, None, Some, is_none, slice_get, ◌⊎◌}
use Rattle.std.specs.List.{list_all}
use Rattle.truth_tables.specs.Formulas.{Formula, is_over}
use Rattle.boolean_programs.specs.declared.statement.Choice.{Choice}
use Rattle.boolean_programs.specs.declared.statement.Choice.TheVariants.{Star, Is}
use Rattle.boolean_programs.specs.declared.statement.Statement.{Statement}
use Rattle.boolean_programs.specs.Programs.{Procedure, Program, width}
use Rattle.boolean_programs.specs.declared.statement.Statement.TheVariants.{Assert}
use Rattle.boolean_programs.specs.declared.point.Point.{Point}
use Rattle.boolean_programs.specs.Lines.{Instruction, code, instruction_at, first_line}
use Rattle.boolean_programs.specs.Lists.{Each, place_in, StandOnce}
use Rattle.boolean_programs.specs.Structure.{is_choice_over, IsValueOver}
use Rattle.boolean_machine.specs.Machine.{at_line, Action, Jumps, Sets, Calls, Returns, action}

abbrev pub is_assert : Statement → Bool
is_assert (Assert e) = true
is_assert s = false

-- a body line of this procedure, or the failure of an assert of it
pub record IsPointOf (p : Program) (procedure : ℕ) (point : Point) : Type 0 where
  pub instruction : Instruction
  pub there : instruction_at p point.line ≡ Some instruction
  pub owner : instruction.procedure ≡ procedure
  pub asserts : point.failed ≡ true → is_assert instruction.statement ≡ true

-- a call fits the procedure that it calls, and leads into it
pub record FitsCallee (p : Program) (targets : List ℕ) (callee : ℕ) (arguments : List Choice) : Type 0 where
  pub procedure : Procedure
  pub found : slice_get p.procs callee ≡ Some procedure
  pub begins : IsPointOf p callee (at_line (first_line procedure.body))
  pub arguments_fit : length arguments ≡ procedure.params
  pub targets_fit : (targets ≡ []) ⊎ (length targets ≡ procedure.returns)

-- what is lawful of the action of a line, in a procedure with so many names
abbrev pub IsLawfulAction : Program → Instruction → Procedure → ℕ → Action → Type 0
IsLawfulAction p i q n (Jumps ways) = Each (λ (w : Formula ℕ × Point). IsTrue (is_over n w.0) × IsPointOf p i.procedure w.1) ways
IsLawfulAction p i q n (Sets targets values) =
    (length targets ≡ length values) × Each (λ t. t < n) targets × Each (IsValueOver n) values × IsPointOf p i.procedure (at_line i.next) × StandOnce targets
IsLawfulAction p i q n (Calls targets callee arguments) =
    FitsCallee p targets callee arguments × Each (λ t. t < n) targets × Each (IsValueOver n) arguments × IsPointOf p i.procedure (at_line i.next) × StandOnce targets
IsLawfulAction p i q n (Returns values) = (length values ≡ q.returns) × Each (IsValueOver n) values

pub record IsLawfulLine (p : Program) (i : Instruction) : Type 0 where
  pub owner : Procedure
  pub found : slice_get p.procs i.procedure ≡ Some owner
  pub acts : IsLawfulAction p i owner (p.globals + width owner) (action p i)

pub record IsLawful (p : Program) : Type 0 where
  pub main : Procedure
  pub found : slice_get p.procs p.main ≡ Some main
  pub begins : IsPointOf p p.main (at_line (first_line main.body))
  pub lines : Each (IsLawfulLine p) (code p)

-- ---- the same as tests

abbrev pub is_point_of : Program → ℕ → Point → Bool
is_point_of p procedure point = elim (instruction_at p point.line) [
  | None ↦ false
  | Some i ↦ nat_eq i.procedure procedure && (not point.failed || is_assert i.statement)
]

abbrev pub are_below : ℕ → List ℕ → Bool
are_below n targets = list_all (λ t. nat_lt t n) targets

abbrev pub stand_once : List ℕ → Bool
stand_once [] = true
stand_once (n ∷ ns) = is_none (place_in ns n) && stand_once ns

abbrev pub are_values_over : ℕ → List Choice → Bool
are_values_over n values = list_all (is_choice_over n) values

abbrev pub fits_callee : Program → List ℕ → ℕ → List Choice → Bool
fits_callee p targets callee arguments = elim (slice_get p.procs callee) [
  | None ↦ false
  | Some q ↦ is_point_of p callee (at_line (first_line q.body)) && nat_eq (length arguments) q.params && (nat_eq (length targets) 0 || nat_eq (length targets) q.returns)
]

abbrev pub is_lawful_action : Program → Instruction → Procedure → ℕ → Action → Bool
is_lawful_action p i q n (Jumps ways) = list_all (λ (w : Formula ℕ × Point). is_over n w.0 && is_point_of p i.procedure w.1) ways
is_lawful_action p i q n (Sets targets values) =
    nat_eq (length targets) (length values) && (are_below n targets && (are_values_over n values && (is_point_of p i.procedure (at_line i.next) && stand_once targets)))
is_lawful_action p i q n (Calls targets callee arguments) =
    fits_callee p targets callee arguments && (are_below n targets && (are_values_over n arguments && (is_point_of p i.procedure (at_line i.next) && stand_once targets)))
is_lawful_action p i q n (Returns values) = nat_eq (length values) q.returns && are_values_over n values

abbrev pub is_lawful_line : Program → Instruction → Bool
is_lawful_line p i = elim (slice_get p.procs i.procedure) [ None ↦ false | Some q ↦ is_lawful_action p i q (p.globals + width q) (action p i) ]

abbrev pub begins_lawfully : Program → Bool
begins_lawfully p = elim (slice_get p.procs p.main) [ None ↦ false | Some q ↦ is_point_of p p.main (at_line (first_line q.body)) ]

abbrev pub is_lawful : Program → Bool
is_lawful p = begins_lawfully p && list_all (is_lawful_line p) (code p)
