-- A program without its names, which are numbers: the globals first, and in a procedure then its parameters and its
-- other locals, in the order of their declaration.
use Rattle.std.specs.Prelude.{ℕ, suc, ◌+◌, List, [], ◌∷◌, length, map, codes, bytes_eq, if◌then◌else◌}
use Rattle.boolean_programs.specs.declared.program.Proc.{Proc}
use Rattle.boolean_programs.specs.declared.program.Program.{Program as ParsedProgram}
use Rattle.boolean_programs.specs.declared.point.Point.{Point}
use Rattle.boolean_programs.specs.declared.program.BodyLine.{BodyLine}
use Rattle.boolean_programs.specs.declared.statement.Choice.{Choice}
use Rattle.boolean_programs.specs.declared.statement.Choice.TheVariants.{Star, Is}
use Rattle.boolean_programs.specs.declared.statement.Statement.{Statement}
use Rattle.boolean_programs.specs.declared.statement.Statement.TheVariants.{Skip, Assign, Goto, Assume, Assert, Call, Return, If, Else, While, EndIf, EndWhile, EndProc}

pub record Procedure : Type 0 where
  -- how many parameters, how many other locals, and how many values it returns
  pub params : ℕ
  pub locals : ℕ
  pub returns : ℕ
  pub body : List BodyLine

pub record Program : Type 0 where
  -- how many globals
  pub globals : ℕ
  pub procs : List Procedure
  -- the place of `main` among the procedures
  pub main : ℕ

-- how many names a procedure has
abbrev pub width : Procedure → ℕ
width q = q.params + q.locals

-- ---- of a parsed program

abbrev pub procedure_of : Proc → Procedure
procedure_of q = record {
  params = length q.params;
  locals = length q.locals;
  returns = q.returns;
  body = q.body;
}

-- the place of the first procedure that is called `main`
abbrev pub main_of : List Proc → ℕ
main_of [] = 0
main_of (q ∷ qs) = if bytes_eq (codes "main") q.name then 0 else suc (main_of qs)

abbrev pub program_of : ParsedProgram → Program
program_of p = record {
  globals = length p.globals;
  procs = map procedure_of p.procs;
  main = main_of p.procs;
}
