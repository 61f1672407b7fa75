-- What holds of every program that is read.
use Rattle.std.specs.Prelude.{◌≡◌, ℕ, ◌+◌, ◌<◌, ◌≤◌, length, count_by, sum_by}
use Rattle.wpds_base.specs.Limits.{most_symbols, most_rules, most_queries}
use Rattle.boolean_programs.specs.declared.point.Point.{Point}
use Rattle.boolean_programs.specs.declared.program.Program.{Program as ParsedProgram}
use Rattle.boolean_programs.specs.declared.statement.Statement.{Statement}
use Rattle.boolean_programs.specs.declared.statement.Statement.TheVariants.{Goto, Assert, If, While}
use Rattle.boolean_programs.specs.Programs.{Program, program_of}
use Rattle.boolean_programs.specs.Lines.{Instruction, code}
use Rattle.boolean_programs.specs.Lists.{Each}
use Rattle.boolean_programs.specs.Structure.{IsRead}
use Rattle.boolean_machine.specs.Machine.{Action, Jumps, Sets, Calls, Returns}
use Rattle.boolean_machine.specs.Lawful.{is_assert, IsPointOf, IsLawful}

-- a point of the program: a body line, or the failure of an assert
abbrev pub IsPoint : Program → Point → Type 0
IsPoint p point = (procedure : ℕ) × IsPointOf p procedure point

-- how many points there are: body lines, and asserts
abbrev pub points : Program → ℕ
points p = length (code p) + count_by (λ (i : Instruction). is_assert i.statement) (code p)

-- How many rules a body line makes: one for each way that it may go on.
abbrev pub rules_by : Statement → ℕ
rules_by (Goto lines) = length lines
rules_by (Assert e) = 2
rules_by (If c) = 2
rules_by (While c) = 2
rules_by s = 1

abbrev pub rules : Program → ℕ
rules p = sum_by (λ (i : Instruction). rules_by i.statement) (code p)

-- in how many ways an action may go on
abbrev pub ways : Action → ℕ
ways (Jumps points) = length points
ways (Sets targets values) = 1
ways (Calls targets callee arguments) = 1
ways (Returns values) = 1

-- A program that is read, as the machine and the lowering take it.
pub record IsProgram (p : ParsedProgram) : Type 0 where
  -- blocks nest, line numbers rise, and names, values and variables fit
  pub read : IsRead (program_of p)
  -- each line leads to lines of its own procedure
  pub lawful : IsLawful (program_of p)
  -- main takes no values, and returns none
  pub main_takes_none : read.main.params ≡ 0
  pub main_returns_none : read.main.returns ≡ 0
  -- the limits on points, rules and queries
  pub few_points : points (program_of p) ≤ most_symbols
  pub few_rules : rules (program_of p) ≤ most_rules
  pub few_queries : length p.queries ≤ most_queries
  pub asks : 0 < length p.queries
  -- each query asks for a point of the program: for a failure, that of an assert
  pub asked : Each (IsPoint (program_of p)) p.queries
