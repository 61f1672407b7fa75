use Rattle.std.proofs.Common.{◌≡◌, List, ◌++◌, length, map}
use Rattle.program_forms.specs.Declared.{whole}
use Rattle.program_forms.specs.Places.{Stated, said, at_top, judged_from, stated}
use Rattle.program_tables.specs.Tables.{AreTablesOf}
use Rattle.program_tables.specs.private.Walks.{AreJudgedAbove}
use Rattle.program_tables.proofs.walk.read_tables.Given as goal

-- These lines have stood, and the lines that are left are judged from here on.
abbrev pub invariant-loop-line : goal.invariant-loop-line
invariant-loop-line l =
    ((done : List Stated)
    × AreTablesOf (whole done) l.tables
    × (stated (judged_from at_top (map said l.fn.lines.lines)) ≡ done ++ stated (judged_from l.place (map said l.lines.lines))))
    × AreJudgedAbove l.fn.lines.lines l.place l.lines.lines l.kept.lines.items l.kept.refused

abbrev pub decreases-loop-line : goal.decreases-loop-line
decreases-loop-line l = length l.lines.lines
