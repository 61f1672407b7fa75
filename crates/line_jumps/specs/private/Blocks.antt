-- The open blocks of a walk down or up the lines of a body, the newest first.
use Rattle.std.specs.Prelude.{◌≡◌, ℕ, zero, suc, List, [], ◌∷◌, drop}
use Rattle.boolean_programs.specs.declared.program.BodyLine.{BodyLine}
use Rattle.boolean_programs.specs.declared.statement.Statement.{Statement}
use Rattle.boolean_programs.specs.declared.statement.Statement.TheVariants.{If, Else, While, EndWhile}
use Rattle.boolean_programs.specs.declared.statement.Bracket.{Bracket}
use Rattle.boolean_programs.specs.declared.statement.Bracket.TheVariants.{Opens, Parts, Closes, Inside}
use Rattle.boolean_programs.specs.Lines.{first_line, behind_end, behind_else, opened_at}
use Rattle.line_jumps.specs.declared.blocks.Ends.{Ends}

-- ---- down

-- the line that opened a block, counted from the newest
abbrev pub opened_by : List ℕ → ℕ → ℕ
opened_by [] d = 0
opened_by (n ∷ ns) zero = n
opened_by (n ∷ ns) (suc d) = opened_by ns d

-- the line that opened the newest
abbrev pub opened_top : List ℕ → ℕ
opened_top opened = opened_by opened 0

-- the open blocks below a line
abbrev pub passed_down : Bracket → ℕ → List ℕ → List ℕ
passed_down Opens n opened = n ∷ opened
passed_down Parts n opened = opened
passed_down Closes n opened = drop 1 opened
passed_down Inside n opened = opened

-- these lines opened the blocks, from the lines above
abbrev pub AreOpened : List ℕ → List BodyLine → Type 0
AreOpened opened above = (d : ℕ) → opened_by opened d ≡ opened_at d above

-- ---- up

abbrev pub end_at : List Ends → ℕ → ℕ
end_at [] d = 0
end_at (e ∷ es) zero = e.behind_end
end_at (e ∷ es) (suc d) = end_at es d

abbrev pub else_at : List Ends → ℕ → ℕ
else_at [] d = 0
else_at (e ∷ es) zero = e.behind_else
else_at (e ∷ es) (suc d) = else_at es d

-- the open blocks above a line, below which this line stands
abbrev pub passed_up : Bracket → ℕ → List Ends → List Ends
passed_up Opens next open_blocks = drop 1 open_blocks
passed_up Parts next open_blocks = record { behind_else = next; behind_end = end_at open_blocks 0 } ∷ drop 1 open_blocks
passed_up Closes next open_blocks = record { behind_else = next; behind_end = next } ∷ open_blocks
passed_up Inside next open_blocks = open_blocks

-- these are the ends of the blocks, from the lines below
abbrev pub AreEnds : List Ends → List BodyLine → Type 0
AreEnds ends below = (d : ℕ) → (end_at ends d ≡ first_line (behind_end d below)) × (else_at ends d ≡ first_line (behind_else d below))

-- ---- lines

-- the line to which a line may jump ahead, by the open blocks, and by the lines below
abbrev pub ahead_by : Statement → List Ends → ℕ
ahead_by (If c) ends = else_at ends 0
ahead_by Else ends = end_at ends 0
ahead_by (While c) ends = end_at ends 0
ahead_by s ends = 0

abbrev pub ahead_of : Statement → List BodyLine → ℕ
ahead_of (If c) below = first_line (behind_else 0 below)
ahead_of Else below = first_line (behind_end 0 below)
ahead_of (While c) below = first_line (behind_end 0 below)
ahead_of s below = 0

abbrev pub lines_ahead : List BodyLine → List ℕ
lines_ahead [] = []
lines_ahead (l ∷ ls) = ahead_of l.statement ls ∷ lines_ahead ls

-- the other line, by the line ahead and the open blocks
abbrev pub other_by : Statement → ℕ → List ℕ → ℕ
other_by EndWhile ahead opened = opened_by opened 0
other_by s ahead opened = ahead
