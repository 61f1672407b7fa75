-- The program of a driver with one lock: what it is read as.
use Rattle.std.proofs.Common.{◌≡◌, ℕ, Bool, true, false, List, [], ◌∷◌, ◌++◌, map, refl}
use Rattle.std.specs.Prelude.{codes, Result, Ok, Err, None}
use Rattle.wpds_port.specs.declared.Refusal.{Refusal}
use Rattle.truth_tables.specs.Formulas.{Constant, Variable, Opposite, Binary}
use Rattle.boolean_programs.specs.declared.program.Proc.{Proc}
use Rattle.boolean_programs.specs.declared.program.Program.{Program as ParsedProgram}
use Rattle.boolean_programs.specs.declared.point.Point.{Point}
use Rattle.boolean_programs.specs.declared.program.BodyLine.{BodyLine}
use Rattle.boolean_programs.specs.declared.statement.Choice.TheVariants.{Star, Is}
use Rattle.boolean_programs.specs.declared.statement.Statement.{Statement}
use Rattle.boolean_programs.specs.declared.statement.Statement.TheVariants.{Skip, Assign, Assert, Call, Return, If, Else, While, EndIf, EndWhile, EndProc}
use Rattle.boolean_programs.specs.Programs.{Program, program_of}
use Rattle.program_forms.specs.Programs.{read_as}

abbrev at : ℕ → Statement → BodyLine
at line statement = record { line = line; label = None; statement = statement }

abbrev point : ℕ → Bool → Point
point line failed = record { line = line; failed = failed }

-- without the labels of its lines
abbrev unlabelled : Proc → Proc
unlabelled q = record q { body = map (λ (l : BodyLine). record l { label = None }) q.body }

-- the program without its names, and its queries, or the refusal
abbrev seen : Result ParsedProgram Refusal → Result (Program × List Point) Refusal
seen (Ok p) = Ok (program_of (record p { procs = map unlabelled p.procs }), p.queries)
seen (Err r) = Err r

lock_program : seen (read_as (codes "bool 1" ++ 10 ∷ (codes "# a driver that takes one lock and gives it back" ++ 10 ∷ (codes "global locked busy" ++ 10 ∷ (10 ∷ (codes "proc acquire()" ++ 10 ∷ (codes "  A1: assert !locked" ++ 10 ∷ (codes "  locked := 1" ++ 10 ∷ (codes "end" ++ 10 ∷ (10 ∷ (codes "proc release()" ++ 10 ∷ (codes "  R1: assert locked" ++ 10 ∷ (codes "  locked := 0" ++ 10 ∷ (codes "end" ++ 10 ∷ (10 ∷ (codes "proc request() returns 1" ++ 10 ∷ (codes "  local ok" ++ 10 ∷ (codes "  ok := *" ++ 10 ∷ (codes "  if ok" ++ 10 ∷ (codes "    busy := 1" ++ 10 ∷ (codes "  else" ++ 10 ∷ (codes "    busy := 0" ++ 10 ∷ (codes "  end" ++ 10 ∷ (codes "  return ok" ++ 10 ∷ (codes "end" ++ 10 ∷ (10 ∷ (codes "proc work(hard)" ++ 10 ∷ (codes "  local more" ++ 10 ∷ (codes "  more := hard" ++ 10 ∷ (codes "  while more" ++ 10 ∷ (codes "    more := call request()" ++ 10 ∷ (codes "    if busy & !more" ++ 10 ∷ (codes "      BAD: skip" ++ 10 ∷ (codes "    end" ++ 10 ∷ (codes "  end" ++ 10 ∷ (codes "end" ++ 10 ∷ (10 ∷ (codes "proc main()" ++ 10 ∷ (codes "  local got again" ++ 10 ∷ (codes "  locked, busy := 0, 0" ++ 10 ∷ (codes "  again := 1" ++ 10 ∷ (codes "  while again" ++ 10 ∷ (codes "    call acquire()" ++ 10 ∷ (codes "    got := call request()" ++ 10 ∷ (codes "    if got" ++ 10 ∷ (codes "      call release()" ++ 10 ∷ (codes "      call work(1)" ++ 10 ∷ (codes "      call acquire()" ++ 10 ∷ (codes "    end" ++ 10 ∷ (codes "    if *" ++ 10 ∷ (codes "      call release()" ++ 10 ∷ (codes "      again := *" ++ 10 ∷ (codes "    else" ++ 10 ∷ (codes "      skip" ++ 10 ∷ (codes "    end" ++ 10 ∷ (codes "  end" ++ 10 ∷ (codes "  LAST: skip" ++ 10 ∷ (codes "end" ++ 10 ∷ (10 ∷ (codes "query fails A1" ++ 10 ∷ (codes "query fails R1" ++ 10 ∷ (codes "query reach BAD" ++ 10 ∷ (codes "query reach LAST" ++ 10 ∷ []))))))))))))))))))))))))))))))))))))))))))))))))))))))))))))))) ≡ Ok ((record { globals = 2; procs = (record { params = 0; locals = 0; returns = 0; body = (at 6 (Assert (Opposite (Variable 0))) ∷ at 7 (Assign (0 ∷ []) (Is (Constant true) ∷ [])) ∷ at 8 (EndProc) ∷ []) } ∷ record { params = 0; locals = 0; returns = 0; body = (at 11 (Assert (Variable 0)) ∷ at 12 (Assign (0 ∷ []) (Is (Constant false) ∷ [])) ∷ at 13 (EndProc) ∷ []) } ∷ record { params = 0; locals = 1; returns = 1; body = (at 17 (Assign (2 ∷ []) (Star ∷ [])) ∷ at 18 (If (Is (Variable 2))) ∷ at 19 (Assign (1 ∷ []) (Is (Constant true) ∷ [])) ∷ at 20 (Else) ∷ at 21 (Assign (1 ∷ []) (Is (Constant false) ∷ [])) ∷ at 22 (EndIf) ∷ at 23 (Return (Is (Variable 2) ∷ [])) ∷ at 24 (EndProc) ∷ []) } ∷ record { params = 1; locals = 1; returns = 0; body = (at 28 (Assign (3 ∷ []) (Is (Variable 2) ∷ [])) ∷ at 29 (While (Is (Variable 3))) ∷ at 30 (Call (3 ∷ []) 2 ([])) ∷ at 31 (If (Is (Binary 8 (Variable 1) (Opposite (Variable 3))))) ∷ at 32 (Skip) ∷ at 33 (EndIf) ∷ at 34 (EndWhile) ∷ at 35 (EndProc) ∷ []) } ∷ record { params = 0; locals = 2; returns = 0; body = (at 39 (Assign (0 ∷ 1 ∷ []) (Is (Constant false) ∷ Is (Constant false) ∷ [])) ∷ at 40 (Assign (3 ∷ []) (Is (Constant true) ∷ [])) ∷ at 41 (While (Is (Variable 3))) ∷ at 42 (Call ([]) 0 ([])) ∷ at 43 (Call (2 ∷ []) 2 ([])) ∷ at 44 (If (Is (Variable 2))) ∷ at 45 (Call ([]) 1 ([])) ∷ at 46 (Call ([]) 3 (Is (Constant true) ∷ [])) ∷ at 47 (Call ([]) 0 ([])) ∷ at 48 (EndIf) ∷ at 49 (If (Star)) ∷ at 50 (Call ([]) 1 ([])) ∷ at 51 (Assign (3 ∷ []) (Star ∷ [])) ∷ at 52 (Else) ∷ at 53 (Skip) ∷ at 54 (EndIf) ∷ at 55 (EndWhile) ∷ at 56 (Skip) ∷ at 57 (EndProc) ∷ []) } ∷ []); main = 4 }), (point 6 true ∷ point 11 true ∷ point 32 false ∷ point 56 false ∷ []))
lock_program = refl
