use Rattle.std.proofs.Common.{List, drop}
use Rattle.document_forms.specs.Lines.{Line}
use Rattle.program_forms.specs.Declared.{whole}
use Rattle.program_forms.specs.Places.{Stated}
use Rattle.program_tables.specs.Judging.{AreJudged}
use Rattle.boolean_syntax.specs.private.Found.{stated_lines, IsOnTheWay, AreWalked}
use Rattle.boolean_syntax.specs.private.Readings.{HasRead}
use Rattle.boolean_syntax.proofs.program.read_body.Given as goal

-- Of the lines that were walked over these were taken, and what is kept of those that are left is
-- judged from here on.
abbrev pub invariant-loop-line : goal.invariant-loop-line
invariant-loop-line l =
    (ls : List Line) → AreWalked ls l.tables l.fn.stated
    → (above : List Stated) × (left : List Line) × IsOnTheWay (whole (stated_lines ls)) ls l.place left above
    × HasRead (whole (stated_lines ls)) above l.reading
    × AreJudged l.place left (drop l.line-index l.line-items) l.fn.stated.refused
