-- Where the lines of a body jump.
use Rattle.std.specs.Prelude.{ℕ, List, [], ◌∷◌}
use Rattle.boolean_programs.specs.declared.program.BodyLine.{BodyLine}
use Rattle.boolean_programs.specs.Lines.{other_line}

-- the other line of each of these lines, by the lines above them, the nearest first
abbrev pub others : List BodyLine → List BodyLine → List ℕ
others above [] = []
others above (l ∷ ls) = other_line above l.statement ls ∷ others (l ∷ above) ls
