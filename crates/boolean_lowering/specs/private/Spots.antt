-- Where a body line stands.
use Rattle.std.specs.Prelude.{ℕ, Bool}
use Rattle.boolean_programs.specs.Lines.{Instruction}
use Rattle.boolean_machine.specs.Lawful.{is_assert}
use Rattle.boolean_lowering.specs.declared.spot.Spot.{Spot}

-- the body line with where it may lead
abbrev pub instruction_of : Spot → Instruction
instruction_of s = record {
  line = s.line.now.line;
  procedure = s.procedure;
  statement = s.line.now.statement;
  next = s.next;
  other = s.other;
}

abbrev pub line_of : Spot → ℕ
line_of s = s.line.now.line

abbrev pub asserts_at : Spot → Bool
asserts_at s = is_assert s.line.now.statement
