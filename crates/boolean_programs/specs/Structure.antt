-- What the reading of a program makes sure of, line by line: blocks that nest, names and counts that fit.
use Rattle.std.specs.Prelude.{◌≡◌, ℕ, ◌+◌, ◌<◌, ◌≤◌, max, Bool, true, false, not, ◌&&◌, nat_lt, IsTrue, List, [], ◌∷◌, length, map, Some, slice_get, ◌⊎◌}
use Rattle.wpds_base.specs.Limits.{most_related}
use Rattle.truth_tables.specs.Formulas.{is_over}
use Rattle.boolean_programs.specs.declared.statement.Statement.{Statement}
use Rattle.boolean_programs.specs.declared.program.BodyLine.{BodyLine}
use Rattle.boolean_programs.specs.Programs.{Procedure, Program, width}
use Rattle.boolean_programs.specs.declared.statement.Choice.{Choice}
use Rattle.boolean_programs.specs.declared.statement.Choice.TheVariants.{Star, Is}
use Rattle.boolean_programs.specs.declared.statement.Statement.TheVariants.{Assign, Goto, Assume, Assert, Call, Return, If, Else, While, EndIf, EndWhile, EndProc}
use Rattle.boolean_programs.specs.Lines.{Instruction, code, line_numbers}
use Rattle.boolean_programs.specs.Lists.{Each, StandOnce}

-- an open block: an `if` before its `else`, one behind it, or a `while`
pub data Block : Type 0 where
  InIf : Block
  InElse : Block
  InWhile : Block

abbrev pub is_if : Block → Bool
is_if InIf = true
is_if InElse = false
is_if InWhile = false

abbrev pub is_while : Block → Bool
is_while InIf = false
is_while InElse = false
is_while InWhile = true

-- the `end` of a procedure: no block is open, and no line follows
abbrev pub is_last : List Block → List BodyLine → Bool
is_last [] [] = true
is_last [] (l ∷ ls) = false
is_last (b ∷ bs) ls = false

-- The lines close the open blocks, the newest first, and end with the `end` of their procedure.
abbrev pub nested : List Block → List BodyLine → Bool
nested blocks [] = false
nested blocks (l ∷ ls) = elim l.statement [
  | If c ↦ nested (InIf ∷ blocks) ls
  | While c ↦ nested (InWhile ∷ blocks) ls
  | Else ↦ elim blocks [ [] ↦ false | b ∷ bs ↦ is_if b && nested (InElse ∷ bs) ls ]
  | EndIf ↦ elim blocks [ [] ↦ false | b ∷ bs ↦ not (is_while b) && nested bs ls ]
  | EndWhile ↦ elim blocks [ [] ↦ false | b ∷ bs ↦ is_while b && nested bs ls ]
  | EndProc ↦ is_last blocks ls
  | _ ↦ nested blocks ls
]

-- each number is above the one before
abbrev pub rises : ℕ → List ℕ → Bool
rises low [] = true
rises low (n ∷ ns) = nat_lt low n && rises n ns

abbrev pub is_choice_over : ℕ → Choice → Bool
is_choice_over n Star = true
is_choice_over n (Is e) = is_over n e

abbrev pub IsValueOver : ℕ → Choice → Type 0
IsValueOver n v = IsTrue (is_choice_over n v)

-- a body line of the procedure has the number
abbrev pub OnLine : Procedure → ℕ → Type 0
OnLine q n = (j : ℕ) × (l : BodyLine) × (slice_get q.body j ≡ Some l) × (l.line ≡ n)

-- names below n, and as many values as are wanted
abbrev pub FitsStatement : Program → Procedure → ℕ → Statement → Type 0
FitsStatement p q n (Assign targets values) = (length targets ≡ length values) × Each (λ t. t < n) targets × Each (IsValueOver n) values × StandOnce targets
FitsStatement p q n (Goto lines) = Each (OnLine q) lines
FitsStatement p q n (Assume e) = IsTrue (is_over n e)
FitsStatement p q n (Assert e) = IsTrue (is_over n e)
FitsStatement p q n (Call targets callee arguments) =
    (c : Procedure) × (slice_get p.procs callee ≡ Some c) × (length arguments ≡ c.params) × ((targets ≡ []) ⊎ (length targets ≡ c.returns)) × Each (λ t. t < n) targets × Each (IsValueOver n) arguments × StandOnce targets
FitsStatement p q n (Return values) = (length values ≡ q.returns) × Each (IsValueOver n) values
FitsStatement p q n (If c) = IsValueOver n c
FitsStatement p q n (While c) = IsValueOver n c
FitsStatement p q n s = Unit {0}

pub record FitsLine (p : Program) (i : Instruction) : Type 0 where
  pub owner : Procedure
  pub found : slice_get p.procs i.procedure ≡ Some owner
  pub fits : FitsStatement p owner (p.globals + width owner) i.statement

-- the greatest of these numbers, and 0 of none
abbrev pub largest : List ℕ → ℕ
largest [] = 0
largest (n ∷ ns) = max n (largest ns)

-- the greatest number of values that a procedure returns
abbrev pub return_slots : Program → ℕ
return_slots p = largest (map (λ (q : Procedure). q.returns) p.procs)

-- a program as it is read
pub record IsRead (p : Program) : Type 0 where
  pub main : Procedure
  pub found : slice_get p.procs p.main ≡ Some main
  pub blocks : Each (λ (q : Procedure). IsTrue (nested [] q.body)) p.procs
  pub rising : IsTrue (rises 0 (line_numbers (code p)))
  pub lines : Each (FitsLine p) (code p)
  -- the names and the returned values have their variables in a relation
  pub narrow : Each (λ (q : Procedure). p.globals + return_slots p + width q ≤ most_related) p.procs
