-- Where a body line stands.
use Rattle.std.specs.Prelude.{ℕ, List, reverse, Option, None, Some, slice_get}
use Rattle.boolean_programs.specs.Lines.{Instruction, first_line, other_line, line_numbers}
use Rattle.boolean_programs.specs.Lists.{place_in}
use Rattle.boolean_meaning.specs.declared.lines.Spot.{Spot}

-- the body line with where it may lead
abbrev pub instruction_of : Spot → Instruction
instruction_of s = record {
  line = s.line.now.line;
  procedure = s.procedure;
  statement = s.line.now.statement;
  next = first_line s.below.now;
  other = other_line (reverse s.above.now) s.line.now.statement s.below.now;
}

-- the instruction of a number among these
abbrev pub found_in : List Instruction → ℕ → Option Instruction
found_in is n = elim (place_in (line_numbers is) n) [ None ↦ None | Some k ↦ slice_get is k ]
