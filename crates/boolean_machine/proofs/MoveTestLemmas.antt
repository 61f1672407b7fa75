-- The test of moves.
use Rattle.std.proofs.Common.{◌≡◌, ◌↔◌, ℕ, zero, suc, ◌+◌, ◌<◌, Bool, true, false, ◌&&◌, nat_eq, List, [], ◌∷◌, length, refl, sym, ap, ap₂, ◌∙◌, subst, arith, ◌⊎◌, inl, inr}
use Rattle.std.specs.Prelude.{Option, None, Some, slice_get, slice_index_or, IsTrue}
use Rattle.std.specs.List.{list_any}
use Rattle.std.proofs.lemmas.Bool.{and_parts, and_from, eqb-true, eq-eqb, or_cases, or_left, or_right, cases_eq}
use Rattle.std.proofs.lemmas.Option.{same_Some}
use Rattle.truth_tables.specs.Formulas.{Formula}
use Rattle.boolean_programs.specs.declared.statement.Choice.{Choice}
use Rattle.boolean_programs.specs.declared.statement.Choice.TheVariants.{Star, Is}
use Rattle.boolean_programs.specs.declared.statement.Statement.{Statement}
use Rattle.boolean_programs.specs.Programs.{Procedure, Program, width}
use Rattle.boolean_programs.specs.declared.statement.Statement.TheVariants.{Skip, Assign, Goto, Assume, Assert, Call, Return, If, Else, While, EndIf, EndWhile, EndProc}
use Rattle.boolean_programs.specs.declared.point.Point.{Point}
use Rattle.boolean_programs.specs.Lines.{Instruction, instruction_at, first_line}
use Rattle.boolean_machine.specs.Machine.{at_line, Frame, State, bits, value_at, MayBe, value_for, Gets, IsEntered, Action, Jumps, Sets, Calls, Returns, action, on_top, Ends, Acts, Moves}
use Rattle.boolean_machine.specs.Tests.{same_flag, same_bits, same_point, same_frames, same_state, all_below, may_be, becomes, has_got, are_arguments, has_entered, has_resumed, has_ended, has_acted, has_moved}

-- ---- equal states

flags_are : (a b : Bool) → same_flag a b ≡ true → a ≡ b
flags_are true true h = refl
flags_are true false h = cc
flags_are false true h = cc
flags_are false false h = refl

flag_itself : (a : Bool) → same_flag a a ≡ true
flag_itself true = refl
flag_itself false = refl

bits_are : (xs ys : List Bool) → same_bits xs ys ≡ true → xs ≡ ys
bits_are [] [] h = refl
bits_are [] (y ∷ ys) h = cc
bits_are (x ∷ xs) [] h = cc
bits_are (x ∷ xs) (y ∷ ys) h =
    let parts = and_parts (same_flag x y) (same_bits xs ys) h in
    ap₂ (λ (b : Bool) (bs : List Bool). b ∷ bs) (flags_are x y parts.0) (bits_are xs ys parts.1)

bits_itself : (xs : List Bool) → same_bits xs xs ≡ true
bits_itself [] = refl
bits_itself (x ∷ xs) = and_from (same_flag x x) (same_bits xs xs) (flag_itself x) (bits_itself xs)

points_are : (a b : Point) → same_point a b ≡ true → a ≡ b
points_are a b h =
    let parts = and_parts (nat_eq a.line b.line) (same_flag a.failed b.failed) h in
    ap₂ (λ (n : ℕ) (f : Bool). let x : Point = record { line = n; failed = f } in x) (eqb-true a.line b.line parts.0) (flags_are a.failed b.failed parts.1)

point_itself : (a : Point) → same_point a a ≡ true
point_itself a = and_from (nat_eq a.line a.line) (same_flag a.failed a.failed) (eq-eqb a.line a.line refl) (flag_itself a.failed)

frame_is : (f g : Frame) → f.point ≡ g.point → f.locals ≡ g.locals → f ≡ g
frame_is f g a b = ap₂ (λ (x : Point) (ls : List Bool). let y : Frame = record { point = x; locals = ls } in y) a b

frames_are : (fs gs : List Frame) → same_frames fs gs ≡ true → fs ≡ gs
frames_are [] [] h = refl
frames_are [] (g ∷ gs) h = cc
frames_are (f ∷ fs) [] h = cc
frames_are (f ∷ fs) (g ∷ gs) h =
    let outer = and_parts (same_point f.point g.point) (same_bits f.locals g.locals && same_frames fs gs) h in
    let inner = and_parts (same_bits f.locals g.locals) (same_frames fs gs) outer.1 in
    ap₂ (λ (x : Frame) (xs : List Frame). x ∷ xs) (frame_is f g (points_are f.point g.point outer.0) (bits_are f.locals g.locals inner.0)) (frames_are fs gs inner.1)

frames_itself : (fs : List Frame) → same_frames fs fs ≡ true
frames_itself [] = refl
frames_itself (f ∷ fs) =
    and_from (same_point f.point f.point) (same_bits f.locals f.locals && same_frames fs fs) (point_itself f.point)
    (and_from (same_bits f.locals f.locals) (same_frames fs fs) (bits_itself f.locals) (frames_itself fs))

state_is : (s t : State) → s.globals ≡ t.globals → s.frames ≡ t.frames → s ≡ t
state_is s t a b = ap₂ (λ (gs : List Bool) (fs : List Frame). let x : State = record { globals = gs; frames = fs } in x) a b

states_are : (s t : State) → same_state s t ≡ true → s ≡ t
states_are s t h =
    let parts = and_parts (same_bits s.globals t.globals) (same_frames s.frames t.frames) h in
    state_is s t (bits_are s.globals t.globals parts.0) (frames_are s.frames t.frames parts.1)

same_from : (s t : State) → s ≡ t → same_state s t ≡ true
same_from s t e = subst (λ x. same_state s x ≡ true) e (and_from (same_bits s.globals s.globals) (same_frames s.frames s.frames) (bits_itself s.globals) (frames_itself s.frames))

-- ---- names and values

below_gives : (n : ℕ) (test : ℕ → Bool) → all_below n test ≡ true → (k : ℕ) → k < n → test k ≡ true
below_gives zero test h k b = absurd (omega arith)
below_gives (suc n) test h k b =
    let parts = and_parts (test n) (all_below n test) h in
    elim (cases_eq k n) [
      | inl is ↦ ap test is ∙ parts.0
      | inr apart ↦ below_gives n test parts.1 k (omega arith)
    ]

below_from : (n : ℕ) (test : ℕ → Bool) → ((k : ℕ) → k < n → test k ≡ true) → all_below n test ≡ true
below_from zero test h = refl
below_from (suc n) test h = and_from (test n) (all_below n test) (h n (omega arith)) (below_from n test (λ k b. h k (omega arith)))

may_gives : (old : ℕ → Bool) (v : Choice) (b : Bool) → may_be old v b ≡ true → MayBe old v b
may_gives old Star b h = tt
may_gives old (Is e) b h = flags_are b (value_at old e) h

may_from : (old : ℕ → Bool) (v : Choice) (b : Bool) → MayBe old v b → may_be old v b ≡ true
may_from old Star b h = refl
may_from old (Is e) b h = ap (same_flag b) (sym h) ∙ flag_itself b

abbrev At : (ℕ → Bool) → (ℕ → Bool) → ℕ → Bool → Option Choice → Type 0
At old kept k b o = elim o [ None ↦ b ≡ kept k | Some v ↦ MayBe old v b ]

becomes_gives : (o : Option Choice) (old kept : ℕ → Bool) (k : ℕ) (b : Bool) → becomes o old kept k b ≡ true → At old kept k b o
becomes_gives None old kept k b h = flags_are b (kept k) h
becomes_gives (Some v) old kept k b h = may_gives old v b h

becomes_from : (o : Option Choice) (old kept : ℕ → Bool) (k : ℕ) (b : Bool) → At old kept k b o → becomes o old kept k b ≡ true
becomes_from None old kept k b h = ap (same_flag b) (sym h) ∙ flag_itself b
becomes_from (Some v) old kept k b h = may_from old v b h

module _ (targets : List ℕ) (values : List Choice) (old : ℕ → Bool) (gs ls : List Bool) (point : Point) (below : List Frame) where
  abbrev Got : State → Type 0
  Got to = (gs' : List Bool) × (ls' : List Bool) × Gets targets values old gs ls gs' ls' × (to ≡ on_top gs' point ls' below)

  abbrev names : List Bool → Frame → Bool
  names gs' f = all_below (length gs + length ls) (λ k. becomes (value_for targets values k) old (bits gs ls) k (bits gs' f.locals k))

  got_gives : (gs' : List Bool) (frames : List Frame) → has_got targets values old gs ls point below (record { globals = gs'; frames = frames }) ≡ true → Got (record { globals = gs'; frames = frames })
  got_gives gs' [] h = cc
  got_gives gs' (f ∷ fs) h =
      let a = and_parts (same_point f.point point) (same_frames fs below && (nat_eq (length gs') (length gs) && (nat_eq (length f.locals) (length ls) && names gs' f))) h in
      let b = and_parts (same_frames fs below) (nat_eq (length gs') (length gs) && (nat_eq (length f.locals) (length ls) && names gs' f)) a.1 in
      let c = and_parts (nat_eq (length gs') (length gs)) (nat_eq (length f.locals) (length ls) && names gs' f) b.1 in
      let d = and_parts (nat_eq (length f.locals) (length ls)) (names gs' f) c.1 in (
        gs',
        f.locals,
        record {
          globals_stay = eqb-true (length gs') (length gs) c.0;
          locals_stay = eqb-true (length f.locals) (length ls) d.0;
          each = λ k small. becomes_gives (value_for targets values k) old (bits gs ls) k (bits gs' f.locals k)
              (below_gives (length gs + length ls) (λ j. becomes (value_for targets values j) old (bits gs ls) j (bits gs' f.locals j)) d.1 k small);
        },
        ap₂ (λ (x : Point) (xs : List Frame). on_top gs' x f.locals xs) (points_are f.point point a.0) (frames_are fs below b.0),
      )

  got_from : (to : State) → Got to → has_got targets values old gs ls point below to ≡ true
  got_from to got =
      let gs' = got.0 in
      let ls' = got.1 in
      let f : Frame = record { point = point; locals = ls' } in
      subst (λ t. has_got targets values old gs ls point below t ≡ true) (sym got.3)
      (and_from (same_point point point) (same_frames below below && (nat_eq (length gs') (length gs) && (nat_eq (length ls') (length ls) && names gs' f))) (point_itself point)
      (and_from (same_frames below below) (nat_eq (length gs') (length gs) && (nat_eq (length ls') (length ls) && names gs' f)) (frames_itself below)
      (and_from (nat_eq (length gs') (length gs)) (nat_eq (length ls') (length ls) && names gs' f) (eq-eqb (length gs') (length gs) got.2.globals_stay)
      (and_from (nat_eq (length ls') (length ls)) (names gs' f) (eq-eqb (length ls') (length ls) got.2.locals_stay)
      (below_from (length gs + length ls) (λ k. becomes (value_for targets values k) old (bits gs ls) k (bits gs' ls' k))
      (λ k small. becomes_from (value_for targets values k) old (bits gs ls) k (bits gs' ls' k) (got.2.each k small)))))))

-- ---- calls

arguments_give : (old : ℕ → Bool) (vs : List Choice) (ls : List Bool) → are_arguments old vs ls ≡ true → (j : ℕ) (v : Choice) → slice_get vs j ≡ Some v → MayBe old v (slice_index_or ls j false)
arguments_give old [] ls h j v e = cc
arguments_give old (w ∷ vs) [] h zero v e = subst (λ c. MayBe old c false) (same_Some w v e) (may_gives old w false (and_parts (may_be old w false) (are_arguments old vs []) h).0)
arguments_give old (w ∷ vs) [] h (suc j) v e = arguments_give old vs [] (and_parts (may_be old w false) (are_arguments old vs []) h).1 j v e
arguments_give old (w ∷ vs) (b ∷ bs) h zero v e = subst (λ c. MayBe old c b) (same_Some w v e) (may_gives old w b (and_parts (may_be old w b) (are_arguments old vs bs) h).0)
arguments_give old (w ∷ vs) (b ∷ bs) h (suc j) v e = arguments_give old vs bs (and_parts (may_be old w b) (are_arguments old vs bs) h).1 j v e

arguments_from : (old : ℕ → Bool) (vs : List Choice) (ls : List Bool) → ((j : ℕ) (v : Choice) → slice_get vs j ≡ Some v → MayBe old v (slice_index_or ls j false)) → are_arguments old vs ls ≡ true
arguments_from old [] ls h = refl
arguments_from old (w ∷ vs) [] h = and_from (may_be old w false) (are_arguments old vs []) (may_from old w false (h 0 w refl)) (arguments_from old vs [] (λ j v e. h (suc j) v e))
arguments_from old (w ∷ vs) (b ∷ bs) h = and_from (may_be old w b) (are_arguments old vs bs) (may_from old w b (h 0 w refl)) (arguments_from old vs bs (λ j v e. h (suc j) v e))

module _ (q : Procedure) (vs : List Choice) (old : ℕ → Bool) (gs : List Bool) (below : List Frame) where
  abbrev begin : Point
  begin = at_line (first_line q.body)

  abbrev Entered : State → Type 0
  Entered to = (ls' : List Bool) × IsEntered q vs old ls' × (to ≡ on_top gs begin ls' below)

  entered_gives : (gs' : List Bool) (frames : List Frame) → has_entered q vs old gs below (record { globals = gs'; frames = frames }) ≡ true → Entered (record { globals = gs'; frames = frames })
  entered_gives gs' [] h = cc
  entered_gives gs' (f ∷ fs) h =
      let a = and_parts (same_bits gs' gs) (same_point f.point begin && (same_frames fs below && (nat_eq (length f.locals) (width q) && are_arguments old vs f.locals))) h in
      let b = and_parts (same_point f.point begin) (same_frames fs below && (nat_eq (length f.locals) (width q) && are_arguments old vs f.locals)) a.1 in
      let c = and_parts (same_frames fs below) (nat_eq (length f.locals) (width q) && are_arguments old vs f.locals) b.1 in
      let d = and_parts (nat_eq (length f.locals) (width q)) (are_arguments old vs f.locals) c.1 in (
        f.locals,
        record { wide = eqb-true (length f.locals) (width q) d.0; each = arguments_give old vs f.locals d.1 },
        ap (λ (xs : List Bool). on_top xs f.point f.locals fs) (bits_are gs' gs a.0) ∙ ap₂ (λ (x : Point) (xs : List Frame). on_top gs x f.locals xs) (points_are f.point begin b.0) (frames_are fs below c.0),
      )

  entered_from : (to : State) → Entered to → has_entered q vs old gs below to ≡ true
  entered_from to h =
      let ls = h.0 in
      subst (λ t. has_entered q vs old gs below t ≡ true) (sym h.2)
      (and_from (same_bits gs gs) (same_point begin begin && (same_frames below below && (nat_eq (length ls) (width q) && are_arguments old vs ls))) (bits_itself gs)
      (and_from (same_point begin begin) (same_frames below below && (nat_eq (length ls) (width q) && are_arguments old vs ls)) (point_itself begin)
      (and_from (same_frames below below) (nat_eq (length ls) (width q) && are_arguments old vs ls) (frames_itself below)
      (and_from (nat_eq (length ls) (width q)) (are_arguments old vs ls) (eq-eqb (length ls) (width q) h.1.wide) (arguments_from old vs ls h.1.each)))))

-- ---- moves

any_gives : {X : Type 0} (test : X → Bool) (xs : List X) → list_any test xs ≡ true → (k : ℕ) × (x : X) × (slice_get xs k ≡ Some x) × (test x ≡ true)
any_gives test [] h = cc
any_gives test (x ∷ xs) h = by_part (or_cases (test x) (list_any test xs) h) (λ g. any_gives test xs g)
  where
    by_part : ((test x ≡ true) ⊎ (list_any test xs ≡ true)) → (list_any test xs ≡ true → (k : ℕ) × (y : _) × (slice_get xs k ≡ Some y) × (test y ≡ true)) → (k : ℕ) × (y : _) × (slice_get (x ∷ xs) k ≡ Some y) × (test y ≡ true)
    by_part (inl here) more = (0, x, refl, here)
    by_part (inr later) more = let found = more later in (suc found.0, found.1, found.2, found.3)

any_from : {X : Type 0} (test : X → Bool) (xs : List X) (k : ℕ) (x : X) → slice_get xs k ≡ Some x → test x ≡ true → list_any test xs ≡ true
any_from test [] k x e h = cc
any_from test (y ∷ xs) zero x e h = or_left (test y) (list_any test xs) (ap test (same_Some y x e) ∙ h)
any_from test (y ∷ xs) (suc k) x e h = or_right (test y) (list_any test xs) (any_from test xs k x e h)

module _ (p : Program) (values : List Choice) (old : ℕ → Bool) (gs : List Bool) (c : Frame) (fs : List Frame) (to : State) (call : Instruction) where
  abbrev by_statement : Statement → Bool
  by_statement s = elim s [
    | Call targets callee arguments ↦ has_got targets values old gs c.locals (at_line call.next) fs to
    | _ ↦ false
  ]

  abbrev Resumes : Statement → Type 0
  Resumes s = (targets : List ℕ) × (callee : ℕ) × (arguments : List Choice) × (s ≡ Call targets callee arguments) × Got targets values old gs c.locals (at_line call.next) fs to

  resumes_gives : (s : Statement) → by_statement s ≡ true → Resumes s
  resumes_gives (Call targets callee arguments) h = (targets, callee, arguments, refl, got_gives targets values old gs c.locals (at_line call.next) fs to.globals to.frames h)
  resumes_gives Skip h = cc
  resumes_gives (Assign targets vs) h = cc
  resumes_gives (Goto lines) h = cc
  resumes_gives (Assume e) h = cc
  resumes_gives (Assert e) h = cc
  resumes_gives (Return vs) h = cc
  resumes_gives (If e) h = cc
  resumes_gives Else h = cc
  resumes_gives (While e) h = cc
  resumes_gives EndIf h = cc
  resumes_gives EndWhile h = cc
  resumes_gives EndProc h = cc

ended_gives : (p : Program) (values : List Choice) (old : ℕ → Bool) (gs : List Bool) (fs : List Frame) (to : State) → has_ended p values old gs fs to ≡ true → Ends p values old gs fs to
ended_gives p values old gs [] to h = states_are to (record { globals = gs; frames = [] }) h
ended_gives p values old gs (c ∷ fs) to h = by_line (instruction_at p c.point.line) refl h
  where
    by_line : (o : Option Instruction) → instruction_at p c.point.line ≡ o → has_resumed values old gs c fs to o ≡ true → Ends p values old gs (c ∷ fs) to
    by_line None e t = cc
    by_line (Some call) e t =
        let r = resumes_gives p values old gs c fs to call call.statement t in
        (call, r.0, r.1, r.2, e, r.3, r.4.0, r.4.1, r.4.2, r.4.3)

ended_from : (p : Program) (values : List Choice) (old : ℕ → Bool) (gs : List Bool) (fs : List Frame) (to : State) → Ends p values old gs fs to → has_ended p values old gs fs to ≡ true
ended_from p values old gs [] to ends = same_from to (record { globals = gs; frames = [] }) ends
ended_from p values old gs (c ∷ fs) to ends =
    ap (has_resumed values old gs c fs to) ends.4
    ∙ ap (by_statement p values old gs c fs to ends.0) ends.5
    ∙ got_from ends.1 values old gs c.locals (at_line ends.0.next) fs to (ends.6, ends.7, ends.8, ends.9)

module _ (p : Program) (i : Instruction) (gs : List Bool) (f : Frame) (fs : List Frame) (to : State) where
  abbrev goes : Formula ℕ × Point → Bool
  goes w = value_at (bits gs f.locals) w.0 && same_state to (on_top gs w.1 f.locals fs)

  acted_gives : (a : Action) → has_acted p i gs f fs to a ≡ true → Acts p i gs f fs to a
  acted_gives (Jumps ways) h =
      let found = any_gives goes ways h in
      let parts = and_parts (value_at (bits gs f.locals) found.1.0) (same_state to (on_top gs found.1.1 f.locals fs)) found.3 in
      (found.0, found.1, found.2, parts.0, states_are to (on_top gs found.1.1 f.locals fs) parts.1)
  acted_gives (Sets targets values) h = got_gives targets values (bits gs f.locals) gs f.locals (at_line i.next) fs to.globals to.frames h
  acted_gives (Calls targets callee arguments) h = by_procedure (slice_get p.procs callee) refl h
    where
      by_procedure : (o : Option Procedure) → slice_get p.procs callee ≡ o → (elim o [ None ↦ false | Some q ↦ has_entered q arguments (bits gs f.locals) gs (f ∷ fs) to ]) ≡ true → Acts p i gs f fs to (Calls targets callee arguments)
      by_procedure None e t = cc
      by_procedure (Some q) e t =
          let entered = entered_gives q arguments (bits gs f.locals) gs (f ∷ fs) to.globals to.frames t in
          (q, e, entered.0, entered.1, entered.2)
  acted_gives (Returns values) h = ended_gives p values (bits gs f.locals) gs fs to h

  acted_from : (a : Action) → Acts p i gs f fs to a → has_acted p i gs f fs to a ≡ true
  acted_from (Jumps ways) acts =
      any_from goes ways acts.0 acts.1 acts.2
      (and_from (value_at (bits gs f.locals) acts.1.0) (same_state to (on_top gs acts.1.1 f.locals fs)) acts.3 (same_from to (on_top gs acts.1.1 f.locals fs) acts.4))
  acted_from (Sets targets values) acts = got_from targets values (bits gs f.locals) gs f.locals (at_line i.next) fs to (acts.0, acts.1, acts.2, acts.3)
  acted_from (Calls targets callee arguments) acts =
      let by_procedure : Option Procedure → Bool = λ o. elim o [ None ↦ false | Some q ↦ has_entered q arguments (bits gs f.locals) gs (f ∷ fs) to ] in
      ap by_procedure acts.1 ∙ entered_from acts.0 arguments (bits gs f.locals) gs (f ∷ fs) to (acts.2, acts.3, acts.4)
  acted_from (Returns values) acts = ended_from p values (bits gs f.locals) gs fs to acts

module _ (p : Program) (gs : List Bool) (f : Frame) (fs : List Frame) (to : State) where
  abbrev by_line : Option Instruction → Bool
  by_line o = elim o [ None ↦ false | Some i ↦ has_acted p i gs f fs to (action p i) ]

  abbrev by_kind : Bool → Bool
  by_kind b = elim b [ true ↦ false | false ↦ by_line (instruction_at p f.point.line) ]

  abbrev Way : Bool → Type 0
  Way b = elim b [
    | true ↦ ⊥
    | false ↦ (i : Instruction) × (instruction_at p f.point.line ≡ Some i) × Acts p i gs f fs to (action p i)
  ]

  line_gives : (o : Option Instruction) → instruction_at p f.point.line ≡ o → by_line o ≡ true → Way false
  line_gives None e h = cc
  line_gives (Some i) e h = (i, e, acted_gives p i gs f fs to (action p i) h)

  way_gives : (b : Bool) → by_kind b ≡ true → Way b
  way_gives true h = let e : false ≡ true = h in cc
  way_gives false h = line_gives (instruction_at p f.point.line) refl h

  way_from : (b : Bool) → Way b → by_kind b ≡ true
  way_from true way = absurd way
  way_from false way = ap by_line way.1 ∙ acted_from p way.0 gs f fs to (action p way.0) way.2

frames_moved : (p : Program) (gs : List Bool) (frames : List Frame) (to : State) → IsTrue (has_moved p (record { globals = gs; frames = frames }) to) ↔ Moves p (record { globals = gs; frames = frames }) to
frames_moved p gs [] to = ((λ h. let e : false ≡ true = h in cc), λ h. absurd h)
frames_moved p gs (f ∷ fs) to = (way_gives p gs f fs to f.point.failed, way_from p gs f fs to f.point.failed)

-- the test is true of the moves
pub moved : (p : Program) (from to : State) → IsTrue (has_moved p from to) ↔ Moves p from to
moved p from to = frames_moved p from.globals from.frames to
