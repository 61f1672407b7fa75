-- Where the lines of a body lead: the line below, and the other line, to which some of them jump.
use Rattle.std.specs.Prelude.{ℕ, zero, suc, List, [], ◌∷◌, ◌++◌, map, Option, None, Some, option_map, slice_get, nat_eq, if◌then◌else◌}
use Rattle.boolean_programs.specs.declared.statement.Statement.{Statement}
use Rattle.boolean_programs.specs.declared.program.BodyLine.{BodyLine}
use Rattle.boolean_programs.specs.Programs.{Procedure, Program}
use Rattle.boolean_programs.specs.declared.statement.Statement.TheVariants.{If, Else, While, EndIf, EndWhile}
use Rattle.boolean_programs.specs.declared.statement.Bracket.{Bracket}
use Rattle.boolean_programs.specs.declared.statement.Bracket.TheVariants.{Opens, Parts, Closes, Inside}
use Rattle.boolean_programs.specs.Lists.{place_in}

-- what a line is to the blocks
abbrev pub bracket : Statement → Bracket
bracket (If c) = Opens
bracket (While c) = Opens
bracket Else = Parts
bracket EndIf = Closes
bracket EndWhile = Closes
bracket s = Inside

-- the number of the first of these lines
abbrev pub first_line : List BodyLine → ℕ
first_line [] = 0
first_line (l ∷ ls) = l.line

-- What stands behind the `end` of a block, from lines inside it on which so many further blocks are open.
abbrev pub behind_end : ℕ → List BodyLine → List BodyLine
behind_end d [] = []
behind_end d (l ∷ ls) = elim (bracket l.statement) [
  | Opens ↦ behind_end (suc d) ls
  | Parts ↦ behind_end d ls
  | Closes ↦ elim d [ zero ↦ ls | suc e ↦ behind_end e ls ]
  | Inside ↦ behind_end d ls
]

-- The same, behind the block's `else` where it has one.
abbrev pub behind_else : ℕ → List BodyLine → List BodyLine
behind_else d [] = []
behind_else d (l ∷ ls) = elim (bracket l.statement) [
  | Opens ↦ behind_else (suc d) ls
  | Parts ↦ elim d [ zero ↦ ls | suc e ↦ behind_else (suc e) ls ]
  | Closes ↦ elim d [ zero ↦ ls | suc e ↦ behind_else e ls ]
  | Inside ↦ behind_else d ls
]

-- The line that opened a block, from lines inside it, the nearest first.
abbrev pub opened_at : ℕ → List BodyLine → ℕ
opened_at d [] = 0
opened_at d (l ∷ ls) = elim (bracket l.statement) [
  | Opens ↦ elim d [ zero ↦ l.line | suc e ↦ opened_at e ls ]
  | Parts ↦ opened_at d ls
  | Closes ↦ opened_at (suc d) ls
  | Inside ↦ opened_at d ls
]

-- the other line of a line, by the lines above it, the nearest first, and those below
abbrev pub other_line : List BodyLine → Statement → List BodyLine → ℕ
other_line above (If c) below = first_line (behind_else 0 below)
other_line above Else below = first_line (behind_end 0 below)
other_line above (While c) below = first_line (behind_end 0 below)
other_line above EndWhile below = opened_at 0 above
other_line above s below = 0

-- A body line with its procedure, and where it may lead.
pub record Instruction : Type 0 where
  pub line : ℕ
  pub procedure : ℕ
  pub statement : Statement
  pub next : ℕ
  pub other : ℕ

abbrev pub instructions : ℕ → List BodyLine → List BodyLine → List Instruction
instructions k above [] = []
instructions k above (l ∷ ls) =
    record { line = l.line; procedure = k; statement = l.statement; next = first_line ls; other = other_line above l.statement ls }
    ∷ instructions k (l ∷ above) ls

abbrev pub code_from : ℕ → List Procedure → List Instruction
code_from k [] = []
code_from k (q ∷ qs) = instructions k [] q.body ++ code_from (suc k) qs

-- all body lines of a program, in order
abbrev pub code : Program → List Instruction
code p = code_from 0 p.procs

abbrev pub line_numbers : List Instruction → List ℕ
line_numbers is = map (λ (i : Instruction). i.line) is

-- the body line of a number
abbrev pub instruction_at : Program → ℕ → Option Instruction
instruction_at p n = elim (place_in (line_numbers (code p)) n) [ None ↦ None | Some k ↦ slice_get (code p) k ]
