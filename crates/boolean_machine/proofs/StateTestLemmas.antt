-- The test of states.
use Rattle.std.proofs.Common.{◌≡◌, ◌↔◌, ℕ, Bool, true, false, not, ◌&&◌, ◌||◌, nat_eq, List, [], ◌∷◌, length, refl, ap, ◌∙◌}
use Rattle.std.specs.Prelude.{Option, None, Some, slice_get, IsTrue}
use Rattle.std.proofs.lemmas.Bool.{and_parts, and_from, eqb-true, eq-eqb}
use Rattle.boolean_programs.specs.declared.statement.Choice.{Choice}
use Rattle.boolean_programs.specs.declared.statement.Statement.{Statement}
use Rattle.boolean_programs.specs.Programs.{Procedure, Program, width}
use Rattle.boolean_programs.specs.declared.statement.Statement.TheVariants.{Skip, Assign, Goto, Assume, Assert, Call, Return, If, Else, While, EndIf, EndWhile, EndProc}
use Rattle.boolean_programs.specs.declared.point.Point.{Point}
use Rattle.boolean_programs.specs.Lines.{Instruction, instruction_at}
use Rattle.boolean_machine.specs.Machine.{Frame, State}
use Rattle.boolean_machine.specs.Lawful.{is_assert, IsPointOf, is_point_of}
use Rattle.boolean_machine.specs.States.{AreWaiting, AreFrames, IsState}
use Rattle.boolean_machine.specs.StateTests.{has_width, calls, are_waiting, are_frames, is_state}
use Rattle.boolean_machine.proofs.TestLemmas.{point_passes}

calls_gives : (s : Statement) (callee : ℕ) → calls s callee ≡ true → (ts : List ℕ) × (vs : List Choice) × (s ≡ Call ts callee vs)
calls_gives (Call ts to vs) callee h = (ts, vs, ap (λ c. Call ts c vs) (eqb-true to callee h))
calls_gives Skip callee h = cc
calls_gives (Assign ts vs) callee h = cc
calls_gives (Goto lines) callee h = cc
calls_gives (Assume e) callee h = cc
calls_gives (Assert e) callee h = cc
calls_gives (Return vs) callee h = cc
calls_gives (If c) callee h = cc
calls_gives Else callee h = cc
calls_gives (While c) callee h = cc
calls_gives EndIf callee h = cc
calls_gives EndWhile callee h = cc
calls_gives EndProc callee h = cc

is_false : (b : Bool) → not b ≡ true → b ≡ false
is_false true h = cc
is_false false h = refl

not_or : (a b : Bool) → (a ≡ true → b ≡ true) → (not a || b) ≡ true
not_or true b h = h refl
not_or false b h = refl

module _ (p : Program) where
  width_gives : (k : ℕ) (ls : List Bool) → has_width p k ls ≡ true → (q : Procedure) × (slice_get p.procs k ≡ Some q) × (length ls ≡ width q)
  width_gives k ls h = by_procedure (slice_get p.procs k) refl h
    where
      by_procedure : (o : Option Procedure) → slice_get p.procs k ≡ o → (elim o [ None ↦ false | Some q ↦ nat_eq (length ls) (width q) ]) ≡ true → (q : Procedure) × (slice_get p.procs k ≡ Some q) × (length ls ≡ width q)
      by_procedure None e t = cc
      by_procedure (Some q) e t = (q, e, eqb-true (length ls) (width q) t)

  width_from : (k : ℕ) (ls : List Bool) (q : Procedure) → slice_get p.procs k ≡ Some q → length ls ≡ width q → has_width p k ls ≡ true
  width_from k ls q e wide =
      let read : Option Procedure → Bool = λ o. elim o [ None ↦ false | Some x ↦ nat_eq (length ls) (width x) ] in
      ap read e ∙ eq-eqb (length ls) (width q) wide

  point_from : (k : ℕ) (point : Point) → IsPointOf p k point → is_point_of p k point ≡ true
  point_from k point is =
      let i = is.instruction in
      let read : Option Instruction → Bool = λ o. elim o [ None ↦ false | Some x ↦ nat_eq x.procedure k && (not point.failed || is_assert x.statement) ] in
      ap read is.there ∙ and_from (nat_eq i.procedure k) (not point.failed || is_assert i.statement) (eq-eqb i.procedure k is.owner) (not_or point.failed (is_assert i.statement) is.asserts)

  waiting_gives : (fs : List Frame) (callee : ℕ) → are_waiting p callee fs ≡ true → AreWaiting p callee fs
  waiting_gives [] callee h = tt
  waiting_gives (f ∷ fs) callee h = by_line (instruction_at p f.point.line) refl h (λ k g. waiting_gives fs k g)
    where
      by_line : (o : Option Instruction) → instruction_at p f.point.line ≡ o
          → (elim o [ None ↦ false | Some i ↦ not f.point.failed && (calls i.statement callee && (has_width p i.procedure f.locals && are_waiting p i.procedure fs)) ]) ≡ true
          → ((k : ℕ) → are_waiting p k fs ≡ true → AreWaiting p k fs) → AreWaiting p callee (f ∷ fs)
      by_line None e t more = cc
      by_line (Some i) e t more =
          let a = and_parts (not f.point.failed) (calls i.statement callee && (has_width p i.procedure f.locals && are_waiting p i.procedure fs)) t in
          let b = and_parts (calls i.statement callee) (has_width p i.procedure f.locals && are_waiting p i.procedure fs) a.1 in
          let c = and_parts (has_width p i.procedure f.locals) (are_waiting p i.procedure fs) b.1 in
          let call = calls_gives i.statement callee b.0 in
          let wide = width_gives i.procedure f.locals c.0 in (
            i.procedure,
            record {
              call = i;
              targets = call.0;
              arguments = call.1;
              whole = is_false f.point.failed a.0;
              there = e;
              statement = call.2;
              within = refl;
              owner = wide.0;
              found = wide.1;
              wide = wide.2;
            },
            more i.procedure c.1,
          )

  waiting_from : (fs : List Frame) (callee : ℕ) → AreWaiting p callee fs → are_waiting p callee fs ≡ true
  waiting_from [] callee waits = refl
  waiting_from (f ∷ fs) callee waits =
      let w = waits.1 in
      let i = w.call in
      let read : Option Instruction → Bool = λ o. elim o [ None ↦ false | Some x ↦ not f.point.failed && (calls x.statement callee && (has_width p x.procedure f.locals && are_waiting p x.procedure fs)) ] in
      let wide : has_width p i.procedure f.locals ≡ true = ap (λ k. has_width p k f.locals) w.within ∙ width_from waits.0 f.locals w.owner w.found w.wide in
      let later : are_waiting p i.procedure fs ≡ true = ap (λ k. are_waiting p k fs) w.within ∙ waiting_from fs waits.0 waits.2 in
      let called : calls i.statement callee ≡ true = ap (λ s. calls s callee) w.statement ∙ eq-eqb callee callee refl in
      ap read w.there
      ∙ and_from (not f.point.failed) (calls i.statement callee && (has_width p i.procedure f.locals && are_waiting p i.procedure fs)) (ap not w.whole)
      (and_from (calls i.statement callee) (has_width p i.procedure f.locals && are_waiting p i.procedure fs) called (and_from (has_width p i.procedure f.locals) (are_waiting p i.procedure fs) wide later))

  frames_give : (fs : List Frame) → are_frames p fs ≡ true → AreFrames p fs
  frames_give [] h = tt
  frames_give (f ∷ fs) h = by_line (instruction_at p f.point.line) refl h
    where
      by_line : (o : Option Instruction) → instruction_at p f.point.line ≡ o
          → (elim o [ None ↦ false | Some i ↦ is_point_of p i.procedure f.point && (has_width p i.procedure f.locals && are_waiting p i.procedure fs) ]) ≡ true → AreFrames p (f ∷ fs)
      by_line None e t = cc
      by_line (Some i) e t =
          let a = and_parts (is_point_of p i.procedure f.point) (has_width p i.procedure f.locals && are_waiting p i.procedure fs) t in
          let b = and_parts (has_width p i.procedure f.locals) (are_waiting p i.procedure fs) a.1 in
          let wide = width_gives i.procedure f.locals b.0 in
          (i.procedure, record { point = point_passes p i.procedure f.point a.0; owner = wide.0; found = wide.1; wide = wide.2 }, waiting_gives fs i.procedure b.1)

  frames_from : (fs : List Frame) → AreFrames p fs → are_frames p fs ≡ true
  frames_from [] are = refl
  frames_from (f ∷ fs) are =
      let stands = are.1 in
      let i = stands.point.instruction in
      let same = stands.point.owner in
      let read : Option Instruction → Bool = λ o. elim o [ None ↦ false | Some x ↦ is_point_of p x.procedure f.point && (has_width p x.procedure f.locals && are_waiting p x.procedure fs) ] in
      let point : is_point_of p i.procedure f.point ≡ true = ap (λ k. is_point_of p k f.point) same ∙ point_from are.0 f.point stands.point in
      let wide : has_width p i.procedure f.locals ≡ true = ap (λ k. has_width p k f.locals) same ∙ width_from are.0 f.locals stands.owner stands.found stands.wide in
      let later : are_waiting p i.procedure fs ≡ true = ap (λ k. are_waiting p k fs) same ∙ waiting_from fs are.0 are.2 in
      ap read stands.point.there
      ∙ and_from (is_point_of p i.procedure f.point) (has_width p i.procedure f.locals && are_waiting p i.procedure fs) point (and_from (has_width p i.procedure f.locals) (are_waiting p i.procedure fs) wide later)

  -- the test is true of the states
  pub state_tested : (s : State) → IsTrue (is_state p s) ↔ IsState p s
  state_tested s = (
    (λ h. let parts = and_parts (nat_eq (length s.globals) p.globals) (are_frames p s.frames) h in
        record { globals = eqb-true (length s.globals) p.globals parts.0; frames = frames_give s.frames parts.1 }),
    λ is. and_from (nat_eq (length s.globals) p.globals) (are_frames p s.frames) (eq-eqb (length s.globals) p.globals is.globals) (frames_from s.frames is.frames),
  )
