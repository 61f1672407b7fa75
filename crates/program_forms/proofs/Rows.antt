-- Worked rows, and a document or more for each point on which a format may be misread.
use Rattle.std.proofs.Common.{◌≡◌, ℕ, Bool, true, false, List, [], ◌∷◌, ◌++◌, map, refl}
use Rattle.std.specs.Prelude.{codes, Result, Ok, Err, None}
use Rattle.wpds_port.specs.declared.Refusal.{Refusal}
use Rattle.wpds_port.specs.Refusals.{refusal}
use Rattle.wpds_port.specs.declared.Kind.TheVariants.{NotText, Header, Form, Twice, Unknown, WeightText, Count, NothingAsked, Arity, TooWide, Label}
use Rattle.truth_tables.specs.Formulas.{Constant, Variable, Opposite, Binary}
use Rattle.boolean_programs.specs.declared.program.Proc.{Proc}
use Rattle.boolean_programs.specs.declared.program.Program.{Program as ParsedProgram}
use Rattle.boolean_programs.specs.declared.point.Point.{Point}
use Rattle.boolean_programs.specs.declared.program.BodyLine.{BodyLine}
use Rattle.boolean_programs.specs.declared.statement.Choice.TheVariants.{Star, Is}
use Rattle.boolean_programs.specs.declared.statement.Statement.{Statement}
use Rattle.boolean_programs.specs.declared.statement.Statement.TheVariants.{Skip, Assign, Goto, Assume, Assert, Call, Return, While, EndWhile, EndProc}
use Rattle.boolean_programs.specs.Programs.{Program, program_of}
use Rattle.program_forms.specs.Programs.{read_as}

abbrev at : ℕ → Statement → BodyLine
at line statement = record { line = line; label = None; statement = statement }

abbrev point : ℕ → Bool → Point
point line failed = record { line = line; failed = failed }

-- without the labels of its lines
abbrev unlabelled : Proc → Proc
unlabelled q = record q { body = map (λ (l : BodyLine). record l { label = None }) q.body }

-- the program without its names, and its queries, or the refusal
abbrev seen : Result ParsedProgram Refusal → Result (Program × List Point) Refusal
seen (Ok p) = Ok (program_of (record p { procs = map unlabelled p.procs }), p.queries)
seen (Err r) = Err r

refused_arity : seen (read_as (codes "bool 1" ++ 10 ∷ (codes "proc main()" ++ 10 ∷ (codes "call f(1)" ++ 10 ∷ (codes "end" ++ 10 ∷ (codes "proc f()" ++ 10 ∷ (codes "skip" ++ 10 ∷ (codes "end" ++ 10 ∷ (codes "query reach L" ++ 10 ∷ []))))))))) ≡ Err (refusal 3 Arity)
refused_arity = refl

refused_wide : seen (read_as (codes "bool 1" ++ 10 ∷ (codes "global a0 a1 a2 a3 a4 a5 a6 a7 a8 a9 a10 a11 a12 a13 a14 a15 a16 a17 a18 a19 a20 a21 a22 a23 a24" ++ 10 ∷ (codes "proc main()" ++ 10 ∷ [])))) ≡ Err (refusal 3 TooWide)
refused_wide = refl

refused_label : seen (read_as (codes "bool 1" ++ 10 ∷ (codes "proc main()" ++ 10 ∷ (codes "goto L" ++ 10 ∷ (codes "end" ++ 10 ∷ (codes "proc f()" ++ 10 ∷ (codes "L: skip" ++ 10 ∷ (codes "end" ++ 10 ∷ (codes "query reach L" ++ 10 ∷ []))))))))) ≡ Err (refusal 3 Label)
refused_label = refl

refused_fails : seen (read_as (codes "bool 1" ++ 10 ∷ (codes "proc main()" ++ 10 ∷ (codes "L: skip" ++ 10 ∷ (codes "end" ++ 10 ∷ (codes "query fails L" ++ 10 ∷ [])))))) ≡ Err (refusal 5 Label)
refused_fails = refl

short_while : seen (read_as (codes "bool 1" ++ 10 ∷ (codes "proc main()" ++ 10 ∷ (codes "while *" ++ 10 ∷ [])))) ≡ Err (refusal 4 Form)
short_while = refl

short_nothing : seen (read_as (codes "bool 1" ++ 10 ∷ (codes "proc main()" ++ 10 ∷ (codes "end" ++ 10 ∷ [])))) ≡ Err (refusal 4 NothingAsked)
short_nothing = refl

short_unknown : seen (read_as (codes "bool 1" ++ 10 ∷ (codes "query reach L" ++ 10 ∷ []))) ≡ Err (refusal 2 Unknown)
short_unknown = refl

endless_calls : seen (read_as (codes "bool 1" ++ 10 ∷ (codes "proc main()" ++ 10 ∷ (codes "call loop()" ++ 10 ∷ (codes "L: skip" ++ 10 ∷ (codes "end" ++ 10 ∷ (codes "proc loop()" ++ 10 ∷ (codes "call loop()" ++ 10 ∷ (codes "end" ++ 10 ∷ (codes "query reach L" ++ 10 ∷ [])))))))))) ≡ Ok ((record { globals = 0; procs = (record { params = 0; locals = 0; returns = 0; body = (at 3 (Call ([]) 1 ([])) ∷ at 4 (Skip) ∷ at 5 (EndProc) ∷ []) } ∷ record { params = 0; locals = 0; returns = 0; body = (at 7 (Call ([]) 1 ([])) ∷ at 8 (EndProc) ∷ []) } ∷ []); main = 0 }), (point 4 false ∷ []))
endless_calls = refl

traced : seen (read_as (codes "bool 1" ++ 10 ∷ (codes "global g" ++ 10 ∷ (codes "proc main()" ++ 10 ∷ (codes "  local x" ++ 10 ∷ (codes "  assume !g & !x" ++ 10 ∷ (codes "  x := 1" ++ 10 ∷ (codes "  g := call f(x)" ++ 10 ∷ (codes "  OUT: assert !g" ++ 10 ∷ (codes "end" ++ 10 ∷ (codes "proc f(a) returns 1" ++ 10 ∷ (codes "  return a" ++ 10 ∷ (codes "end" ++ 10 ∷ (codes "query fails OUT" ++ 10 ∷ [])))))))))))))) ≡ Ok ((record { globals = 1; procs = (record { params = 0; locals = 1; returns = 0; body = (at 5 (Assume (Binary 8 (Opposite (Variable 0)) (Opposite (Variable 1)))) ∷ at 6 (Assign (1 ∷ []) (Is (Constant true) ∷ [])) ∷ at 7 (Call (0 ∷ []) 1 (Is (Variable 1) ∷ [])) ∷ at 8 (Assert (Opposite (Variable 0))) ∷ at 9 (EndProc) ∷ []) } ∷ record { params = 1; locals = 0; returns = 1; body = (at 11 (Return (Is (Variable 1) ∷ [])) ∷ at 12 (EndProc) ∷ []) } ∷ []); main = 0 }), (point 8 true ∷ []))
traced = refl

doc_cut_off : seen (read_as (codes "bool 1" ++ 10 ∷ (codes "proc f()" ++ 10 ∷ (codes "skip" ++ 10 ∷ (codes "proc main()" ++ 10 ∷ (codes "L: skip" ++ 10 ∷ (codes "end" ++ 10 ∷ (codes "query reach L" ++ 10 ∷ [])))))))) ≡ Err (refusal 8 Form)
doc_cut_off = refl

doc_order : seen (read_as (codes "bool 1" ++ 10 ∷ (codes "proc f()" ++ 10 ∷ (codes "skip" ++ 10 ∷ [])))) ≡ Err (refusal 4 Form)
doc_order = refl

doc_else_outside : seen (read_as (codes "bool 1" ++ 10 ∷ (codes "else" ++ 10 ∷ []))) ≡ Err (refusal 2 Form)
doc_else_outside = refl

doc_end_outside : seen (read_as (codes "bool 1" ++ 10 ∷ (codes "proc main()" ++ 10 ∷ (codes "end" ++ 10 ∷ (codes "end" ++ 10 ∷ []))))) ≡ Err (refusal 4 Form)
doc_end_outside = refl

doc_second_else : seen (read_as (codes "bool 1" ++ 10 ∷ (codes "proc main()" ++ 10 ∷ (codes "if *" ++ 10 ∷ (codes "else" ++ 10 ∷ (codes "else" ++ 10 ∷ (codes "end" ++ 10 ∷ (codes "end" ++ 10 ∷ [])))))))) ≡ Err (refusal 5 Form)
doc_second_else = refl

doc_else_in_while : seen (read_as (codes "bool 1" ++ 10 ∷ (codes "proc main()" ++ 10 ∷ (codes "while *" ++ 10 ∷ (codes "else" ++ 10 ∷ (codes "end" ++ 10 ∷ (codes "end" ++ 10 ∷ []))))))) ≡ Err (refusal 4 Form)
doc_else_in_while = refl

doc_formless_opens_nothing : seen (read_as (codes "bool 1" ++ 10 ∷ (codes "proc main()" ++ 10 ∷ (codes "goto L" ++ 10 ∷ (codes "if" ++ 10 ∷ (codes "end" ++ 10 ∷ (codes "L: skip" ++ 10 ∷ (codes "end" ++ 10 ∷ (codes "query reach L" ++ 10 ∷ []))))))))) ≡ Err (refusal 3 Unknown)
doc_formless_opens_nothing = refl

doc_later : seen (read_as (codes "bool 1" ++ 10 ∷ (codes "proc main()" ++ 10 ∷ (codes "g := 1" ++ 10 ∷ (codes "call f()" ++ 10 ∷ (codes "goto L" ++ 10 ∷ (codes "L: skip" ++ 10 ∷ (codes "end" ++ 10 ∷ (codes "proc f()" ++ 10 ∷ (codes "end" ++ 10 ∷ (codes "global g" ++ 10 ∷ (codes "query reach L" ++ 10 ∷ [])))))))))))) ≡ Ok ((record { globals = 1; procs = (record { params = 0; locals = 0; returns = 0; body = (at 3 (Assign (0 ∷ []) (Is (Constant true) ∷ [])) ∷ at 4 (Call ([]) 1 ([])) ∷ at 5 (Goto (6 ∷ [])) ∷ at 6 (Skip) ∷ at 7 (EndProc) ∷ []) } ∷ record { params = 0; locals = 0; returns = 0; body = (at 9 (EndProc) ∷ []) } ∷ []); main = 0 }), (point 6 false ∷ []))
doc_later = refl

doc_later_refused : seen (read_as (codes "bool 1" ++ 10 ∷ (codes "proc main()" ++ 10 ∷ (codes "goto L" ++ 10 ∷ (codes "end" ++ 10 ∷ (codes "L: skip" ++ 10 ∷ (codes "query reach L" ++ 10 ∷ []))))))) ≡ Err (refusal 3 Unknown)
doc_later_refused = refl

doc_label_else : seen (read_as (codes "bool 1" ++ 10 ∷ (codes "proc main()" ++ 10 ∷ (codes "if *" ++ 10 ∷ (codes "L: else" ++ 10 ∷ (codes "end" ++ 10 ∷ (codes "end" ++ 10 ∷ []))))))) ≡ Err (refusal 4 Form)
doc_label_else = refl

doc_label_end : seen (read_as (codes "bool 1" ++ 10 ∷ (codes "proc main()" ++ 10 ∷ (codes "L: end" ++ 10 ∷ [])))) ≡ Err (refusal 3 Form)
doc_label_end = refl

doc_label_if : seen (read_as (codes "bool 1" ++ 10 ∷ (codes "proc main()" ++ 10 ∷ (codes "L: if *" ++ 10 ∷ (codes "end" ++ 10 ∷ (codes "K: while L | 0" ++ 10 ∷ (codes "end" ++ 10 ∷ (codes "end" ++ 10 ∷ (codes "query reach K" ++ 10 ∷ []))))))))) ≡ Err (refusal 5 Unknown)
doc_label_if = refl

doc_remarks : seen (read_as (codes "bool 1" ++ 10 ∷ (codes "proc main()" ++ 10 ∷ (codes "# x" ++ 10 ∷ (10 ∷ (codes "local x" ++ 10 ∷ (codes " # y" ++ 10 ∷ (codes "local y" ++ 10 ∷ (codes "L: x, y := y, x" ++ 10 ∷ (codes "end" ++ 10 ∷ (codes "query reach L" ++ 10 ∷ []))))))))))) ≡ Ok ((record { globals = 0; procs = (record { params = 0; locals = 2; returns = 0; body = (at 8 (Assign (0 ∷ 1 ∷ []) (Is (Variable 1) ∷ Is (Variable 0) ∷ [])) ∷ at 9 (EndProc) ∷ []) } ∷ []); main = 0 }), (point 8 false ∷ []))
doc_remarks = refl

doc_local_later : seen (read_as (codes "bool 1" ++ 10 ∷ (codes "proc main()" ++ 10 ∷ (codes "skip" ++ 10 ∷ (codes "local x" ++ 10 ∷ []))))) ≡ Err (refusal 4 Form)
doc_local_later = refl

doc_empty : seen (read_as (codes "bool 1" ++ 10 ∷ (codes "proc main()" ++ 10 ∷ (codes "end" ++ 10 ∷ (codes "query reach L" ++ 10 ∷ (codes "proc f()" ++ 10 ∷ (codes "L: call main()" ++ 10 ∷ (codes "end" ++ 10 ∷ [])))))))) ≡ Ok ((record { globals = 0; procs = (record { params = 0; locals = 0; returns = 0; body = (at 3 (EndProc) ∷ []) } ∷ record { params = 0; locals = 0; returns = 0; body = (at 6 (Call ([]) 0 ([])) ∷ at 7 (EndProc) ∷ []) } ∷ []); main = 0 }), (point 6 false ∷ []))
doc_empty = refl

doc_classes : seen (read_as (codes "bool 1" ++ 10 ∷ (codes "global a" ++ 10 ∷ (codes "proc a()" ++ 10 ∷ (codes "a: a := 0" ++ 10 ∷ (codes "end" ++ 10 ∷ (codes "proc main()" ++ 10 ∷ (codes "local main" ++ 10 ∷ (codes "a2: main := a" ++ 10 ∷ (codes "end" ++ 10 ∷ (codes "query reach a" ++ 10 ∷ []))))))))))) ≡ Ok ((record { globals = 1; procs = (record { params = 0; locals = 0; returns = 0; body = (at 4 (Assign (0 ∷ []) (Is (Constant false) ∷ [])) ∷ at 5 (EndProc) ∷ []) } ∷ record { params = 0; locals = 1; returns = 0; body = (at 8 (Assign (1 ∷ []) (Is (Variable 0) ∷ [])) ∷ at 9 (EndProc) ∷ []) } ∷ []); main = 1 }), (point 4 false ∷ []))
doc_classes = refl

doc_label_twice : seen (read_as (codes "bool 1" ++ 10 ∷ (codes "proc main()" ++ 10 ∷ (codes "L: skip" ++ 10 ∷ (codes "L: skip" ++ 10 ∷ (codes "end" ++ 10 ∷ (codes "query reach L" ++ 10 ∷ []))))))) ≡ Err (refusal 4 Twice)
doc_label_twice = refl

doc_global_twice : seen (read_as (codes "bool 1" ++ 10 ∷ (codes "global a b" ++ 10 ∷ (codes "global c a" ++ 10 ∷ (codes "proc main()" ++ 10 ∷ (codes "L: skip" ++ 10 ∷ (codes "end" ++ 10 ∷ (codes "query reach L" ++ 10 ∷ [])))))))) ≡ Err (refusal 3 Twice)
doc_global_twice = refl

doc_param_global : seen (read_as (codes "bool 1" ++ 10 ∷ (codes "proc f(a)" ++ 10 ∷ (codes "L: skip" ++ 10 ∷ (codes "end" ++ 10 ∷ (codes "global a" ++ 10 ∷ (codes "proc main()" ++ 10 ∷ (codes "end" ++ 10 ∷ (codes "query reach L" ++ 10 ∷ []))))))))) ≡ Err (refusal 2 Twice)
doc_param_global = refl

doc_local_global : seen (read_as (codes "bool 1" ++ 10 ∷ (codes "proc main()" ++ 10 ∷ (codes "local b a" ++ 10 ∷ (codes "L: skip" ++ 10 ∷ (codes "end" ++ 10 ∷ (codes "global a" ++ 10 ∷ (codes "query reach L" ++ 10 ∷ [])))))))) ≡ Err (refusal 3 Twice)
doc_local_global = refl

doc_local_param : seen (read_as (codes "bool 1" ++ 10 ∷ (codes "proc f(a)" ++ 10 ∷ (codes "local a" ++ 10 ∷ (codes "end" ++ 10 ∷ []))))) ≡ Err (refusal 3 Twice)
doc_local_param = refl

doc_params : seen (read_as (codes "bool 1" ++ 10 ∷ (codes "proc f(a, a)" ++ 10 ∷ (codes "end" ++ 10 ∷ [])))) ≡ Err (refusal 2 Twice)
doc_params = refl

doc_returns : seen (read_as (codes "bool 1" ++ 10 ∷ (codes "global a0 a1 a2 a3 a4 a5 a6 a7 a8 a9 a10 a11 a12 a13 a14 a15 a16 a17 a18 a19" ++ 10 ∷ (codes "proc main()" ++ 10 ∷ (codes "local x" ++ 10 ∷ (codes "L: skip" ++ 10 ∷ (codes "end" ++ 10 ∷ (codes "proc f() returns 4" ++ 10 ∷ (codes "end" ++ 10 ∷ (codes "query reach L" ++ 10 ∷ [])))))))))) ≡ Err (refusal 4 TooWide)
doc_returns = refl

doc_fits : seen (read_as (codes "bool 1" ++ 10 ∷ (codes "global a0 a1 a2 a3 a4 a5 a6 a7 a8 a9 a10 a11 a12 a13 a14 a15 a16 a17 a18 a19" ++ 10 ∷ (codes "proc main()" ++ 10 ∷ (codes "local x" ++ 10 ∷ (codes "L: skip" ++ 10 ∷ (codes "end" ++ 10 ∷ (codes "proc f() returns 3" ++ 10 ∷ (codes "end" ++ 10 ∷ (codes "query reach L" ++ 10 ∷ [])))))))))) ≡ Ok ((record { globals = 20; procs = (record { params = 0; locals = 1; returns = 0; body = (at 5 (Skip) ∷ at 6 (EndProc) ∷ []) } ∷ record { params = 0; locals = 0; returns = 3; body = (at 8 (EndProc) ∷ []) } ∷ []); main = 0 }), (point 5 false ∷ []))
doc_fits = refl

doc_second_local : seen (read_as (codes "bool 1" ++ 10 ∷ (codes "proc main()" ++ 10 ∷ (codes "local a0 a1 a2 a3 a4 a5 a6 a7 a8 a9 a10 a11 a12 a13 a14 a15 a16 a17 a18 a19 a20 a21 a22 a23" ++ 10 ∷ (codes "local x" ++ 10 ∷ []))))) ≡ Err (refusal 4 TooWide)
doc_second_local = refl

doc_returns_0 : seen (read_as (codes "bool 1" ++ 10 ∷ (codes "proc f() returns 0" ++ 10 ∷ (codes "end" ++ 10 ∷ [])))) ≡ Err (refusal 2 Form)
doc_returns_0 = refl

doc_returns_25 : seen (read_as (codes "bool 1" ++ 10 ∷ (codes "proc f() returns 25" ++ 10 ∷ (codes "skip" ++ 10 ∷ [])))) ≡ Err (refusal 2 Form)
doc_returns_25 = refl

doc_returns_24 : seen (read_as (codes "bool 1" ++ 10 ∷ (codes "proc f() returns 24" ++ 10 ∷ (codes "L: end" ++ 10 ∷ (codes "end" ++ 10 ∷ []))))) ≡ Err (refusal 3 Form)
doc_returns_24 = refl

doc_goto_twice : seen (read_as (codes "bool 1" ++ 10 ∷ (codes "proc main()" ++ 10 ∷ (codes "L: goto L L" ++ 10 ∷ (codes "call main()" ++ 10 ∷ (codes "return" ++ 10 ∷ (codes "skip" ++ 10 ∷ (codes "end" ++ 10 ∷ (codes "query reach L" ++ 10 ∷ []))))))))) ≡ Ok ((record { globals = 0; procs = (record { params = 0; locals = 0; returns = 0; body = (at 3 (Goto (3 ∷ 3 ∷ [])) ∷ at 4 (Call ([]) 0 ([])) ∷ at 5 (Return ([])) ∷ at 6 (Skip) ∷ at 7 (EndProc) ∷ []) } ∷ []); main = 0 }), (point 3 false ∷ []))
doc_goto_twice = refl

doc_star : seen (read_as (codes "bool 1" ++ 10 ∷ (codes "proc main()" ++ 10 ∷ (codes "local x" ++ 10 ∷ (codes "x := * & x" ++ 10 ∷ (codes "end" ++ 10 ∷ [])))))) ≡ Err (refusal 4 Form)
doc_star = refl

doc_assume : seen (read_as (codes "bool 1" ++ 10 ∷ (codes "proc main()" ++ 10 ∷ (codes "assume *" ++ 10 ∷ (codes "end" ++ 10 ∷ []))))) ≡ Err (refusal 3 Form)
doc_assume = refl

doc_call : seen (read_as (codes "bool 1" ++ 10 ∷ (codes "proc f(a, b) returns 2" ++ 10 ∷ (codes "return b, *" ++ 10 ∷ (codes "end" ++ 10 ∷ (codes "proc main()" ++ 10 ∷ (codes "local x y" ++ 10 ∷ (codes "L: y, x := call f(*, (x) => !y)" ++ 10 ∷ (codes "while *" ++ 10 ∷ (codes "end" ++ 10 ∷ (codes "end" ++ 10 ∷ (codes "query reach L" ++ 10 ∷ [])))))))))))) ≡ Ok ((record { globals = 0; procs = (record { params = 2; locals = 0; returns = 2; body = (at 3 (Return (Is (Variable 1) ∷ Star ∷ [])) ∷ at 4 (EndProc) ∷ []) } ∷ record { params = 0; locals = 2; returns = 0; body = (at 7 (Call (1 ∷ 0 ∷ []) 0 (Star ∷ Is (Binary 11 (Variable 0) (Opposite (Variable 1))) ∷ [])) ∷ at 8 (While (Star)) ∷ at 9 (EndWhile) ∷ at 10 (EndProc) ∷ []) } ∷ []); main = 1 }), (point 7 false ∷ []))
doc_call = refl

main_params : seen (read_as (codes "bool 1" ++ 10 ∷ (codes "proc main(a)" ++ 10 ∷ (codes "end" ++ 10 ∷ [])))) ≡ Err (refusal 2 Arity)
main_params = refl

main_returns : seen (read_as (codes "bool 1" ++ 10 ∷ (codes "proc main() returns 1" ++ 10 ∷ (codes "end" ++ 10 ∷ [])))) ≡ Err (refusal 2 Arity)
main_returns = refl

assign_count : seen (read_as (codes "bool 1" ++ 10 ∷ (codes "global a b" ++ 10 ∷ (codes "proc main()" ++ 10 ∷ (codes "a, b := 1" ++ 10 ∷ (codes "end" ++ 10 ∷ [])))))) ≡ Err (refusal 4 Arity)
assign_count = refl

target_twice : seen (read_as (codes "bool 1" ++ 10 ∷ (codes "global a b" ++ 10 ∷ (codes "proc main()" ++ 10 ∷ (codes "a, a := 1" ++ 10 ∷ (codes "end" ++ 10 ∷ [])))))) ≡ Err (refusal 4 Twice)
target_twice = refl

reserved_target : seen (read_as (codes "bool 1" ++ 10 ∷ (codes "proc main()" ++ 10 ∷ (codes "skip := 1" ++ 10 ∷ (codes "end" ++ 10 ∷ []))))) ≡ Err (refusal 3 Unknown)
reserved_target = refl

large_table : seen (read_as (codes "bool 1" ++ 10 ∷ (codes "global a" ++ 10 ∷ (codes "proc main()" ++ 10 ∷ (codes "assume tab2 16 (a, a)" ++ 10 ∷ (codes "end" ++ 10 ∷ [])))))) ≡ Err (refusal 4 WeightText)
large_table = refl

unknown_in_table : seen (read_as (codes "bool 1" ++ 10 ∷ (codes "global a" ++ 10 ∷ (codes "proc main()" ++ 10 ∷ (codes "assume tab2 16 (a, b)" ++ 10 ∷ (codes "end" ++ 10 ∷ [])))))) ≡ Err (refusal 4 Unknown)
unknown_in_table = refl

deep : seen (read_as (codes "bool 1" ++ 10 ∷ (codes "global a" ++ 10 ∷ (codes "proc main()" ++ 10 ∷ (codes "assume ((((((((((((((((((((((((((((((((((((((((((((((((((((((((((((((((a))))))))))))))))))))))))))))))))))))))))))))))))))))))))))))))))" ++ 10 ∷ (codes "end" ++ 10 ∷ [])))))) ≡ Err (refusal 4 Count)
deep = refl

two_in_label : seen (read_as (codes "bool 1" ++ 10 ∷ (codes "proc main()" ++ 10 ∷ (codes "call f()" ++ 10 ∷ (codes "fails: skip" ++ 10 ∷ (codes "end" ++ 10 ∷ (codes "query fails reach" ++ 10 ∷ []))))))) ≡ Err (refusal 3 Unknown)
two_in_label = refl

not_text : seen (read_as (98 ∷ 111 ∷ 111 ∷ 108 ∷ 32 ∷ 49 ∷ 10 ∷ 112 ∷ 114 ∷ 111 ∷ 99 ∷ 32 ∷ 109 ∷ 97 ∷ 105 ∷ 110 ∷ 40 ∷ 41 ∷ 10 ∷ 115 ∷ 107 ∷ 105 ∷ 112 ∷ 7 ∷ 10 ∷ [])) ≡ Err (refusal 3 NotText)
not_text = refl

no_bytes : seen (read_as []) ≡ Err (refusal 1 Header)
no_bytes = refl

no_header : seen (read_as (codes "wpds 2" ++ 10 ∷ [])) ≡ Err (refusal 1 Header)
no_header = refl

feed_return : seen (read_as (98 ∷ 111 ∷ 111 ∷ 108 ∷ 32 ∷ 49 ∷ 10 ∷ 13 ∷ [])) ≡ Err (refusal 3 Unknown)
feed_return = refl
