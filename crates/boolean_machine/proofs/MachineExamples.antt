-- Programs on which the definitions are worked out.
use Rattle.std.proofs.Common.{◌≡◌, ℕ, zero, suc, ◌<◌, Bool, true, false, List, [], ◌∷◌, map, refl, sym, ap, ◌∙◌, subst, arith}
use Rattle.std.specs.Prelude.{Option, None, Some, slice_get, slice_index_or, IsTrue}
use Rattle.std.proofs.lemmas.Option.{same_Some}
use Rattle.truth_tables.specs.Formulas.{Formula, Constant, Variable, Opposite, Binary}
use Rattle.boolean_programs.specs.declared.statement.Choice.{Choice}
use Rattle.boolean_programs.specs.declared.statement.Choice.TheVariants.{Star, Is}
use Rattle.boolean_programs.specs.declared.statement.Statement.{Statement}
use Rattle.boolean_programs.specs.declared.program.BodyLine.{BodyLine}
use Rattle.boolean_programs.specs.Programs.{Program}
use Rattle.boolean_programs.specs.declared.statement.Statement.TheVariants.{Skip, Assign, Assume, Assert, Call, Return, If, Else, While, EndIf, EndWhile, EndProc}
use Rattle.boolean_programs.specs.declared.point.Point.{Point}
use Rattle.boolean_programs.specs.Lines.{Instruction, code, instruction_at}
use Rattle.boolean_machine.specs.Machine.{bits, value_at, MayBe, MayBecome, on_top, Acts, at_line, Frame, State, IsStart, Moves, IsProgramRun, IsReached, action}
use Rattle.boolean_machine.specs.Lawful.{is_lawful, IsLawful}
use Rattle.boolean_machine.specs.Picks.{step_of}
use Rattle.boolean_machine.specs.Tests.{has_moved}
use Rattle.boolean_machine.proofs.TestLemmas.{lawful_passes}

abbrev pub at : ℕ → Statement → BodyLine
at line statement = record { line = line; label = None; statement = statement }

abbrev pub same : Choice
same = Is (Variable 0)

abbrev pub both : Formula ℕ → Formula ℕ → Formula ℕ
both a b = Binary 8 a b

-- The program with `g := call f(x)`: global g is 0; in main x is 1, and in f a is 1.
abbrev pub small : Program
small = record {
  globals = 1;
  procs =
      record {
        params = 0;
        locals = 1;
        returns = 0;
        body =
            at 5 (Assume (both (Opposite (Variable 0)) (Opposite (Variable 1))))
            ∷ at 6 (Assign (1 ∷ []) (Is (Constant true) ∷ []))
            ∷ at 7 (Call (0 ∷ []) 1 (Is (Variable 1) ∷ []))
            ∷ at 8 (Assert (Opposite (Variable 0)))
            ∷ at 9 EndProc ∷ [];
      }
      ∷ record { params = 1; locals = 0; returns = 1; body = at 11 (Return (Is (Variable 1) ∷ [])) ∷ at 12 EndProc ∷ [] } ∷ [];
  main = 0;
}

pub small_is_lawful : IsLawful small
small_is_lawful = lawful_passes small refl

abbrev frame : Point → Bool → Frame
frame point local = record { point = point; locals = local ∷ [] }

abbrev state : Bool → List Frame → State
state g frames = record { globals = g ∷ []; frames = frames }

abbrev pub failure : Point
failure = record { line = 8; failed = true }

-- the six states of its trace
abbrev pub trace : List State
trace =
    state false (frame (at_line 5) false ∷ [])
    ∷ state false (frame (at_line 6) false ∷ [])
    ∷ state false (frame (at_line 7) true ∷ [])
    ∷ state false (frame (at_line 11) true ∷ frame (at_line 7) true ∷ [])
    ∷ state true (frame (at_line 8) true ∷ [])
    ∷ state true (frame failure true ∷ []) ∷ []

begins : IsStart small (state false (frame (at_line 5) false ∷ []))
begins = record { main = _; found = refl; locals = false ∷ []; globals_are = refl; locals_are = refl; frames_are = refl }

-- each state is a move of the one before
assumes : Moves small (state false (frame (at_line 5) false ∷ [])) (state false (frame (at_line 6) false ∷ []))
assumes = (_, refl, (0, _, refl, refl, refl))

assigns : Moves small (state false (frame (at_line 6) false ∷ [])) (state false (frame (at_line 7) true ∷ []))
assigns = (_, refl, (false ∷ [], true ∷ [], record { globals_stay = refl; locals_stay = refl; each = each }, refl))
  where
    each : (k : ℕ) → k < 2 → MayBecome (1 ∷ []) (Is (Constant true) ∷ []) (bits (false ∷ []) (false ∷ [])) (bits (false ∷ []) (false ∷ [])) k (bits (false ∷ []) (true ∷ []) k)
    each zero h = refl
    each (suc zero) h = refl
    each (suc (suc k)) h = absurd (omega arith)

calls : Moves small (state false (frame (at_line 7) true ∷ [])) (state false (frame (at_line 11) true ∷ frame (at_line 7) true ∷ []))
calls = (_, refl, (_, refl, true ∷ [], record { wide = refl; each = each }, refl))
  where
    each : (j : ℕ) (v : Choice) → slice_get (Is (Variable 1) ∷ []) j ≡ Some v → MayBe (bits (false ∷ []) (true ∷ [])) v (slice_index_or (true ∷ []) j false)
    each zero v e = subst (λ c. MayBe (bits (false ∷ []) (true ∷ [])) c true) (same_Some (Is (Variable 1)) v e) refl
    each (suc j) v e = cc

returns : Moves small (state false (frame (at_line 11) true ∷ frame (at_line 7) true ∷ [])) (state true (frame (at_line 8) true ∷ []))
returns = (_, refl, (_, 0 ∷ [], 1, Is (Variable 1) ∷ [], refl, refl, true ∷ [], true ∷ [], record { globals_stay = refl; locals_stay = refl; each = each }, refl))
  where
    each : (k : ℕ) → k < 2 → MayBecome (0 ∷ []) (Is (Variable 1) ∷ []) (bits (false ∷ []) (true ∷ [])) (bits (false ∷ []) (true ∷ [])) k (bits (true ∷ []) (true ∷ []) k)
    each zero h = refl
    each (suc zero) h = refl
    each (suc (suc k)) h = absurd (omega arith)

asserts : Moves small (state true (frame (at_line 8) true ∷ [])) (state true (frame failure true ∷ []))
asserts = (_, refl, (1, _, refl, refl, refl))

is_run : IsProgramRun small trace
is_run = (begins, (assumes, (assigns, (calls, (returns, (asserts, tt))))))

-- the assert fails
pub fails : IsReached small failure
fails = (trace, is_run, 5, _, refl, refl)

-- where the assert holds there is no move to its failure
holds : Moves small (state false (frame (at_line 8) true ∷ [])) (state false (frame failure true ∷ [])) → ⊥
holds moves = no_way moves.0 moves.1 moves.2
  where
    no_way : (i : Instruction) → instruction_at small 8 ≡ Some i → Acts small i (false ∷ []) (frame (at_line 8) true) [] (state false (frame failure true ∷ [])) (action small i) → ⊥
    no_way i e acts =
        let is = same_Some _ i e in
        let there = subst (λ j. Acts small j (false ∷ []) (frame (at_line 8) true) [] (state false (frame failure true ∷ [])) (action small j)) (sym is) acts in
        by_way there.0 there.1 there.2 there.3 there.4
      where
        top_point : State → Point
        top_point s = elim s.frames [ [] ↦ failure | f ∷ fs ↦ f.point ]

        by_way : (k : ℕ) (way : Formula ℕ × Point) → slice_get ((Opposite (Variable 0), at_line 9) ∷ (Opposite (Opposite (Variable 0)), failure) ∷ []) k ≡ Some way → IsTrue (value_at (bits (false ∷ []) (true ∷ [])) way.0)
            → state false (frame failure true ∷ []) ≡ on_top (false ∷ []) way.1 (true ∷ []) [] → ⊥
        by_way zero way e t to =
            let w = same_Some _ way e in
            let at : failure ≡ at_line 9 = ap (λ (s : State). top_point s) to ∙ ap (λ (x : Formula ℕ × Point). x.1) (sym w) in
            let b : true ≡ false = ap (λ (x : Point). x.failed) at in
            cc
        by_way (suc zero) way e t to =
            let w = same_Some _ way e in
            let b : false ≡ true = subst (λ (x : Formula ℕ × Point). IsTrue (value_at (bits (false ∷ []) (true ∷ [])) x.0)) (sym w) t in
            cc
        by_way (suc (suc k)) way e t to = cc

-- ---- blocks: the lines below and the other lines of the driver's loop, with its lines numbered from 1

abbrev flag : Formula ℕ
flag = Variable 0

-- while again { call; if got { call; call; call } if * { call; again := * } else { skip } } skip
abbrev driver : List BodyLine
driver =
    at 1 (Assign (0 ∷ []) (Star ∷ []))
    ∷ at 2 (While (Is flag))
    ∷ at 3 Skip
    ∷ at 4 (If (Is flag))
    ∷ at 5 Skip
    ∷ at 6 EndIf
    ∷ at 7 (If Star)
    ∷ at 8 Skip
    ∷ at 9 Else
    ∷ at 10 Skip
    ∷ at 11 EndIf
    ∷ at 12 EndWhile
    ∷ at 13 Skip
    ∷ at 14 EndProc ∷ []

abbrev pub loop : Program
loop = record { globals = 1; procs = record { params = 0; locals = 0; returns = 0; body = driver } ∷ []; main = 0 }

loop_lines : map {B = ℕ × ℕ × ℕ} (λ (i : Instruction). (i.line, i.next, i.other)) (code loop) ≡
    (1, 2, 0) ∷ (2, 3, 13) ∷ (3, 4, 0) ∷ (4, 5, 7) ∷ (5, 6, 0) ∷ (6, 7, 0) ∷ (7, 8, 10) ∷ (8, 9, 0) ∷ (9, 10, 12) ∷ (10, 11, 0) ∷ (11, 12, 0) ∷ (12, 13, 2) ∷ (13, 14, 0) ∷ (14, 0, 0) ∷ []
loop_lines = refl

loop_is_lawful : IsLawful loop
loop_is_lawful = lawful_passes loop refl

-- a program in which the call has too many values is not lawful
abbrev unlawful : Program
unlawful = record { globals = 0; procs = record { params = 0; locals = 0; returns = 0; body = at 1 (Call [] 0 (Star ∷ [])) ∷ at 2 EndProc ∷ [] } ∷ []; main = 0 }

is_unlawful : is_lawful unlawful ≡ false
is_unlawful = refl

-- ---- the trace of the small program, walked by picks

abbrev none_free : ℕ → Bool
none_free k = false

-- the states after so many steps
abbrev walked : ℕ → State → Option State
walked zero s = Some s
walked (suc n) s = elim (step_of small s 0 none_free) [ None ↦ None | Some t ↦ walked n t ]

abbrev at_start : State
at_start = state false (frame (at_line 5) false ∷ [])

walk_1 : walked 1 at_start ≡ Some (state false (frame (at_line 6) false ∷ []))
walk_1 = refl

walk_3 : walked 3 at_start ≡ Some (state false (frame (at_line 11) true ∷ frame (at_line 7) true ∷ []))
walk_3 = refl

walk_5 : walked 5 at_start ≡ Some (state true (frame failure true ∷ []))
walk_5 = refl

-- at a failure there is no move
walk_6 : walked 6 at_start ≡ None
walk_6 = refl

-- an `end` of a procedure returns free values: here the picked bit, into the call's target
returns_free : step_of small (state false (frame (at_line 12) true ∷ frame (at_line 7) true ∷ [])) 0 (λ k. true) ≡ Some (state true (frame (at_line 8) true ∷ []))
returns_free = refl

-- with no frame below, none is left
last_return : step_of small (state true (frame (at_line 9) true ∷ [])) 0 none_free ≡ Some (state true [])
last_return = refl

-- ---- the test of moves

call_moves : has_moved small (state false (frame (at_line 7) true ∷ [])) (state false (frame (at_line 11) true ∷ frame (at_line 7) true ∷ [])) ≡ true
call_moves = refl

-- a parameter is the argument
wrong_argument : has_moved small (state false (frame (at_line 7) true ∷ [])) (state false (frame (at_line 11) false ∷ frame (at_line 7) true ∷ [])) ≡ false
wrong_argument = refl

-- a call keeps the globals
changed_global : has_moved small (state false (frame (at_line 7) true ∷ [])) (state true (frame (at_line 11) true ∷ frame (at_line 7) true ∷ [])) ≡ false
changed_global = refl

-- a return does not restore the globals but sets its target
set_target : has_moved small (state false (frame (at_line 11) true ∷ frame (at_line 7) true ∷ [])) (state true (frame (at_line 8) true ∷ [])) ≡ true
set_target = refl

kept_target : has_moved small (state false (frame (at_line 11) true ∷ frame (at_line 7) true ∷ [])) (state false (frame (at_line 8) true ∷ [])) ≡ false
kept_target = refl
