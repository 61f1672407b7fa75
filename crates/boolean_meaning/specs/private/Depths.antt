-- How many further blocks are open behind a line, going down or up; nothing where the line ends the walk.
use Rattle.std.specs.Prelude.{ℕ, zero, suc, Option, None, Some}
use Rattle.boolean_programs.specs.declared.statement.Bracket.{Bracket}
use Rattle.boolean_programs.specs.declared.statement.Bracket.TheVariants.{Opens, Parts, Closes, Inside}

-- one less, where there is one
abbrev pub one_less : ℕ → Option ℕ
one_less zero = None
one_less (suc d) = Some d

-- the same number, where it is not 0
abbrev pub if_deeper : ℕ → Option ℕ
if_deeper zero = None
if_deeper (suc d) = Some (suc d)

-- down to the end of a block
abbrev pub depth_to_end : ℕ → Bracket → Option ℕ
depth_to_end d Opens = Some (suc d)
depth_to_end d Parts = Some d
depth_to_end d Closes = one_less d
depth_to_end d Inside = Some d

-- down to its else, or to its end
abbrev pub depth_to_else : ℕ → Bracket → Option ℕ
depth_to_else d Opens = Some (suc d)
depth_to_else d Parts = if_deeper d
depth_to_else d Closes = one_less d
depth_to_else d Inside = Some d

-- up to the line that opened it
abbrev pub depth_to_opening : ℕ → Bracket → Option ℕ
depth_to_opening d Opens = one_less d
depth_to_opening d Parts = Some d
depth_to_opening d Closes = Some (suc d)
depth_to_opening d Inside = Some d
