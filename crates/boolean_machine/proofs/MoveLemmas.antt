-- Moves lead from states to states, and are those that picks make.
use Rattle.std.proofs.Common.{◌≡◌, ℕ, ◌+◌, ◌<◌, Bool, true, false, List, [], ◌∷◌, ◌++◌, length, refl, sym, ap, ◌∙◌, subst, arith, if◌then◌else◌}
use Rattle.std.specs.Prelude.{Option, None, Some, slice_get, option_map, IsTrue}
use Rattle.std.proofs.lemmas.Bool.{cond-true, cond-false}
use Rattle.std.proofs.lemmas.Option.{same_Some, slice_get_within}
use Rattle.truth_tables.specs.Formulas.{Formula}
use Rattle.boolean_programs.specs.declared.statement.Choice.{Choice}
use Rattle.boolean_programs.specs.declared.statement.Statement.{Statement}
use Rattle.boolean_programs.specs.Programs.{Procedure, Program, width}
use Rattle.boolean_programs.specs.declared.statement.Statement.TheVariants.{Call}
use Rattle.boolean_programs.specs.declared.point.Point.{Point}
use Rattle.boolean_programs.specs.Lines.{Instruction, instruction_at, first_line}
use Rattle.boolean_machine.specs.Machine.{at_line, Frame, State, bits, value_at, Action, Jumps, Sets, Calls, Returns, action, returns_of, on_top, Ends, Acts, Moves, IsStart}
use Rattle.boolean_programs.specs.Lists.{Each}
use Rattle.boolean_machine.specs.Lawful.{IsPointOf, IsLawfulAction, IsLawful}
use Rattle.boolean_machine.specs.States.{WaitsAt, AreWaiting, AreFrames, IsState}
use Rattle.boolean_machine.specs.Picks.{listed, stars, picked, on_written, is_picked, first_true, way_taken, resumed, ended, acted, top_acted, step_of}
use Rattle.boolean_machine.proofs.ActionLemmas.{calls_at_call, line_at, call_at, targets_at, enough_values}
use Rattle.boolean_machine.proofs.PickLemmas.{written_gets, gets_written, picks, entry_entered, entered_entry, entry_picks, first_is, picked_true, others_first, AllTrue, FirstTrue}

module _ (p : Program) (lawful : IsLawful p) where
  -- a starting state is a state
  pub start_is : (s : State) → IsStart p s → IsState p s
  start_is s start =
      let main : start.main ≡ lawful.main = same_Some start.main lawful.main (sym start.found ∙ lawful.found) in
      let point : IsPointOf p p.main (at_line (first_line start.main.body)) = subst (λ (q : Procedure). IsPointOf p p.main (at_line (first_line q.body))) (sym main) lawful.begins in
      let frames : AreFrames p (record { point = at_line (first_line start.main.body); locals = start.locals } ∷ []) =
      (p.main, record { point = point; owner = start.main; found = start.found; wide = start.locals_are }, tt) in
      record { globals = start.globals_are; frames = subst (AreFrames p) (sym start.frames_are) frames }

  -- a frame that stands at an instruction, above others that wait
  pub record At (gs : List Bool) (f : Frame) (fs : List Frame) (i : Instruction) : Type 0 where
    pub globals : length gs ≡ p.globals
    pub whole : f.point.failed ≡ false
    pub there : instruction_at p f.point.line ≡ Some i
    pub owner : Procedure
    pub found : slice_get p.procs i.procedure ≡ Some owner
    pub wide : length f.locals ≡ width owner
    pub below : AreWaiting p i.procedure fs
    pub acts : IsLawfulAction p i owner (length gs + length f.locals) (action p i)

  at_frame : (gs : List Bool) (f : Frame) (fs : List Frame) → length gs ≡ p.globals → AreFrames p (f ∷ fs) → (i : Instruction) → f.point.failed ≡ false → instruction_at p f.point.line ≡ Some i → At gs f fs i
  at_frame gs f fs globals frames i whole there =
      let stands = frames.1 in
      let same : stands.point.instruction ≡ i = same_Some stands.point.instruction i (sym stands.point.there ∙ there) in
      let procedure : frames.0 ≡ i.procedure = sym stands.point.owner ∙ ap (λ (x : Instruction). x.procedure) same in
      let found : slice_get p.procs i.procedure ≡ Some stands.owner = ap (slice_get p.procs) (sym procedure) ∙ stands.found in
      let line = line_at p lawful f.point.line i there in
      let owner : line.owner ≡ stands.owner = same_Some line.owner stands.owner (sym line.found ∙ found) in
      let count : p.globals + width line.owner ≡ length gs + length f.locals =
      let a = stands.wide in let b : width line.owner ≡ width stands.owner = ap width owner in omega arith in
      record {
        globals = globals;
        whole = whole;
        there = there;
        owner = stands.owner;
        found = found;
        wide = stands.wide;
        below = subst (λ q. AreWaiting p q fs) procedure frames.2;
        acts = subst (λ m. IsLawfulAction p i stands.owner m (action p i)) count (subst (λ q. IsLawfulAction p i q (p.globals + width line.owner) (action p i)) owner line.acts);
      }

  module _ (gs : List Bool) (f : Frame) (fs : List Frame) (i : Instruction) (at : At gs f fs i) where
    stays_in : (point : Point) → IsPointOf p i.procedure point → (gs' ls' : List Bool) → length gs' ≡ length gs → length ls' ≡ length f.locals → IsState p (on_top gs' point ls' fs)
    stays_in point is gs' ls' a b = record { globals = a ∙ at.globals; frames = (i.procedure, record { point = is; owner = at.owner; found = at.found; wide = b ∙ at.wide }, at.below) }

    ends_in : (fs' : List Frame) → AreWaiting p i.procedure fs' → (values : List Choice) (to : State) → Ends p values (bits gs f.locals) gs fs' to → IsState p to
    ends_in [] waits values to ends = subst (IsState p) (sym ends) (record { globals = at.globals; frames = tt })
    ends_in (c ∷ fs') waits values to ends =
        let w = waits.1 in
        let same : ends.0 ≡ w.call = same_Some ends.0 w.call (sym ends.4 ∙ w.there) in
        let next = (call_at p lawful c.point.line w.call w.targets i.procedure w.arguments w.there w.statement).1 in
        let point : IsPointOf p waits.0 (at_line ends.0.next) = subst (λ (x : Instruction). IsPointOf p waits.0 (at_line x.next)) (sym same) (subst (λ q. IsPointOf p q (at_line w.call.next)) w.within next) in
        subst (IsState p) (sym ends.9)
        (record { globals = ends.8.globals_stay ∙ at.globals; frames = (waits.0, record { point = point; owner = w.owner; found = w.found; wide = ends.8.locals_stay ∙ w.wide }, waits.2) })

    stay_act : (a : Action) → action p i ≡ a → IsLawfulAction p i at.owner (length gs + length f.locals) a → (to : State) → Acts p i gs f fs to a → IsState p to
    stay_act (Jumps ways) is acts to moves = subst (IsState p) (sym moves.4) (stays_in moves.1.1 (acts moves.0 moves.1 moves.2).1 gs f.locals refl refl)
    stay_act (Sets targets values) is acts to moves = subst (IsState p) (sym moves.3) (stays_in (at_line i.next) acts.3 moves.0 moves.1 moves.2.globals_stay moves.2.locals_stay)
    stay_act (Calls targets callee arguments) is acts to moves =
        let fits = acts.0 in
        let same : moves.0 ≡ fits.procedure = same_Some moves.0 fits.procedure (sym moves.1 ∙ fits.found) in
        let begins : IsPointOf p callee (at_line (first_line moves.0.body)) = subst (λ (q : Procedure). IsPointOf p callee (at_line (first_line q.body))) (sym same) fits.begins in
        let waits : WaitsAt p callee f i.procedure = record {
          call = i;
          targets = targets;
          arguments = arguments;
          whole = at.whole;
          there = at.there;
          statement = calls_at_call (returns_of p i.procedure) i i.statement targets callee arguments is;
          within = refl;
          owner = at.owner;
          found = at.found;
          wide = at.wide;
        } in
        subst (IsState p) (sym moves.4)
        (record { globals = at.globals; frames = (callee, record { point = begins; owner = moves.0; found = moves.1; wide = moves.3.wide }, (i.procedure, waits, at.below)) })
    stay_act (Returns values) is acts to moves = ends_in fs at.below values to moves

    -- ---- picks

    resumed_at : (new : List Bool) (c : Frame) (fs' : List Frame) (call : Instruction) (ts : List ℕ) (callee : ℕ) (vs : List Choice) → instruction_at p c.point.line ≡ Some call → call.statement ≡ Call ts callee vs
        → ended p new gs (c ∷ fs') ≡ Some (on_written ts new gs (at_line call.next) c.locals fs')
    resumed_at new c fs' call ts callee vs there statement =
        let by_statement : Statement → Option State = λ s. elim s [
          | Call targets to arguments ↦ Some (on_written targets new gs (at_line call.next) c.locals fs')
          | _ ↦ None
        ] in
        ap (resumed new gs c fs') there ∙ ap by_statement statement

    -- a pick makes a move
    ended_moves : (fs' : List Frame) → AreWaiting p i.procedure fs' → (values : List Choice) → length values ≡ at.owner.returns → (free : ℕ → Bool) (to : State) → ended p (picked (bits gs f.locals) free 0 values) gs fs' ≡ Some to
        → Ends p values (bits gs f.locals) gs fs' to
    ended_moves [] waits values count free to e = sym (same_Some _ to e)
    ended_moves (c ∷ fs') waits values count free to e =
        let w = waits.1 in
        let new = picked (bits gs f.locals) free 0 values in
        let fits = (call_at p lawful c.point.line w.call w.targets i.procedure w.arguments w.there w.statement).0 in
        let is : on_written w.targets new gs (at_line w.call.next) c.locals fs' ≡ to =
        same_Some _ to (sym (resumed_at new c fs' w.call w.targets i.procedure w.arguments w.there w.statement) ∙ e) in
        let gets = written_gets w.targets values (enough_values p w.targets i.procedure w.arguments fits at.owner at.found values count) (bits gs f.locals) gs c.locals free in
        (w.call, w.targets, i.procedure, w.arguments, w.there, w.statement, _, _, gets, sym is)

    pick_act : (a : Action) → action p i ≡ a → IsLawfulAction p i at.owner (length gs + length f.locals) a → (target : ℕ) (free : ℕ → Bool) (to : State) → acted p i gs f fs target free a ≡ Some to → Acts p i gs f fs to a
    pick_act (Jumps ways) is acts target free to e =
        let old = bits gs f.locals in
        let go : (Formula ℕ × Point) → State = λ w. on_top gs w.1 f.locals fs in
        let way = mapped go (way_taken i.statement target old ways) to e in
        let place = by_kind (is_picked i.statement) refl way.0 way.1 in
        (place.0, way.0, place.1, place.2, sym way.2)
      where
        mapped : {A B : Type 0} (h : A → B) (o : Option A) (y : B) → option_map h o ≡ Some y → (x : A) × (o ≡ Some x) × (h x ≡ y)
        mapped h None y e = cc
        mapped h (Some x) y e = (x, refl, same_Some (h x) y e)

        by_kind : (b : Bool) → is_picked i.statement ≡ b → (w : Formula ℕ × Point) → way_taken i.statement target (bits gs f.locals) ways ≡ Some w → (k : ℕ) × (slice_get ways k ≡ Some w) × IsTrue (value_at (bits gs f.locals) w.0)
        by_kind true b w taken =
            let there : slice_get ways target ≡ Some w = sym (cond-true (is_picked i.statement) (slice_get ways target) (first_true (bits gs f.locals) ways) b) ∙ taken in
            let all : AllTrue (returns_of p i.procedure) i (bits gs f.locals) (Jumps ways) = subst (AllTrue (returns_of p i.procedure) i (bits gs f.locals)) is (picked_true (returns_of p i.procedure) i (bits gs f.locals) i.statement b) in
            (target, there, all target w there)
        by_kind false b w taken = first_is (bits gs f.locals) ways w (sym (cond-false (is_picked i.statement) (slice_get ways target) (first_true (bits gs f.locals) ways) b) ∙ taken)
    pick_act (Sets targets values) is acts target free to e =
        let gets = written_gets targets values (λ j k h. few j k h) (bits gs f.locals) gs f.locals free in
        (_, _, gets, sym (same_Some _ to e))
      where
        few : (j k : ℕ) → slice_get targets j ≡ Some k → j < length values
        few j k h = let small : j < length targets = slice_get_within targets j k h in let count = acts.0 in omega arith
    pick_act (Calls targets callee arguments) is acts target free to e =
        let fits = acts.0 in
        let go : Procedure → State = λ q. on_top gs (at_line (first_line q.body)) (picked (bits gs f.locals) free 0 arguments ++ listed q.locals (λ j. free (stars arguments + j))) (f ∷ fs) in
        let to_is : go fits.procedure ≡ to = same_Some (go fits.procedure) to (sym (ap (option_map go) fits.found) ∙ e) in
        (fits.procedure, fits.found, _, entry_entered fits.procedure arguments fits.arguments_fit (bits gs f.locals) free, sym to_is)
    pick_act (Returns values) is acts target free to e = ended_moves fs at.below values acts.0 free to e

    -- a move has a pick
    ended_picks : (fs' : List Frame) → AreWaiting p i.procedure fs' → (values : List Choice) → length values ≡ at.owner.returns → (to : State) → Ends p values (bits gs f.locals) gs fs' to
        → (free : ℕ → Bool) × (ended p (picked (bits gs f.locals) free 0 values) gs fs' ≡ Some to)
    ended_picks [] waits values count to ends = ((λ k. false), ap Some (sym ends))
    ended_picks (c ∷ fs') waits values count to ends =
        let w = waits.1 in
        let fits = (call_at p lawful c.point.line ends.0 ends.1 ends.2 ends.3 ends.4 ends.5).0 in
        let same : ends.0 ≡ w.call = same_Some ends.0 w.call (sym ends.4 ∙ w.there) in
        let statement : Call ends.1 ends.2 ends.3 ≡ Call w.targets i.procedure w.arguments = sym ends.5 ∙ ap (λ (x : Instruction). x.statement) same ∙ w.statement in
        let callee : ends.2 ≡ i.procedure = cc in
        let owner : slice_get p.procs ends.2 ≡ Some at.owner = ap (slice_get p.procs) callee ∙ at.found in
        let enough = enough_values p ends.1 ends.2 ends.3 fits at.owner owner values count in
        let names = targets_at p lawful c.point.line ends.0 ends.1 ends.2 ends.3 ends.4 ends.5 in
        let found : slice_get p.procs ends.0.procedure ≡ Some w.owner = ap (λ (x : Instruction). slice_get p.procs x.procedure) same ∙ ap (slice_get p.procs) w.within ∙ w.found in
        let owners : names.owner ≡ w.owner = same_Some names.owner w.owner (sym names.found ∙ found) in
        let width_is : p.globals + width names.owner ≡ length gs + length c.locals =
        let a = at.globals in let b = w.wide in let d : width names.owner ≡ width w.owner = ap width owners in omega arith in
        let small : Each (λ t. t < length gs + length c.locals) ends.1 = subst (λ m. Each (λ t. t < m) ends.1) width_is names.small in
        let old = bits gs f.locals in
        let free = picks ends.1 values enough old gs c.locals ends.6 ends.7 names.once small ends.8 in
        let is = gets_written ends.1 values enough old gs c.locals ends.6 ends.7 names.once small ends.8 (at_line ends.0.next) fs' in
        (free, resumed_at (picked old free 0 values) c fs' ends.0 ends.1 ends.2 ends.3 ends.4 ends.5 ∙ ap Some (sym is ∙ sym ends.9))

    act_picks : (a : Action) → action p i ≡ a → IsLawfulAction p i at.owner (length gs + length f.locals) a → (to : State) → Acts p i gs f fs to a → (target : ℕ) × (free : ℕ → Bool) × (acted p i gs f fs target free a ≡ Some to)
    act_picks (Jumps ways) is acts to moves =
        let go : (Formula ℕ × Point) → State = λ w. on_top gs w.1 f.locals fs in
        (moves.0, (λ k. false), ap (option_map go) (by_kind (is_picked i.statement) refl) ∙ ap Some (sym moves.4))
      where
        by_kind : (b : Bool) → is_picked i.statement ≡ b → way_taken i.statement moves.0 (bits gs f.locals) ways ≡ Some moves.1
        by_kind true b = cond-true (is_picked i.statement) (slice_get ways moves.0) (first_true (bits gs f.locals) ways) b ∙ moves.2
        by_kind false b =
            let first : FirstTrue (returns_of p i.procedure) i (bits gs f.locals) (Jumps ways) =
            subst (FirstTrue (returns_of p i.procedure) i (bits gs f.locals)) is (others_first (returns_of p i.procedure) i (bits gs f.locals) i.statement b) in
            cond-false (is_picked i.statement) (slice_get ways moves.0) (first_true (bits gs f.locals) ways) b ∙ first moves.0 moves.1 moves.2 moves.3
    act_picks (Sets targets values) is acts to moves =
        let old = bits gs f.locals in
        let enough : (j k : ℕ) → slice_get targets j ≡ Some k → j < length values = λ j k h. let small : j < length targets = slice_get_within targets j k h in let count = acts.0 in omega arith in
        let free = picks targets values enough old gs f.locals moves.0 moves.1 acts.4 acts.1 moves.2 in
        let written_is = gets_written targets values enough old gs f.locals moves.0 moves.1 acts.4 acts.1 moves.2 (at_line i.next) fs in
        (0, free, ap Some (sym written_is ∙ sym moves.3))
    act_picks (Calls targets callee arguments) is acts to moves =
        let fits = acts.0 in
        let q = moves.0 in
        let old = bits gs f.locals in
        let same : fits.procedure ≡ q = same_Some fits.procedure q (sym fits.found ∙ moves.1) in
        let count : length arguments ≡ q.params = fits.arguments_fit ∙ ap (λ (x : Procedure). x.params) same in
        let free = entry_picks q arguments count old moves.2 moves.3 in
        let go : Procedure → State = λ x. on_top gs (at_line (first_line x.body)) (picked old free 0 arguments ++ listed x.locals (λ j. free (stars arguments + j))) (f ∷ fs) in
        let entry_is = entered_entry q arguments count old moves.2 moves.3 in
        (0, free, ap (option_map go) moves.1 ∙ ap (λ (ls : List Bool). Some (on_top gs (at_line (first_line q.body)) ls (f ∷ fs))) (sym entry_is) ∙ ap Some (sym moves.4))
    act_picks (Returns values) is acts to moves =
        let found = ended_picks fs at.below values acts.0 to moves in
        (0, found.0, found.1)

  -- ---- states

  abbrev Way : List Bool → Frame → List Frame → State → Bool → Type 0
  Way gs f fs to b = elim b [
    | true ↦ ⊥
    | false ↦ (j : Instruction) × (instruction_at p f.point.line ≡ Some j) × Acts p j gs f fs to (action p j)
  ]

  top_stays : (gs : List Bool) (f : Frame) (fs : List Frame) → length gs ≡ p.globals → AreFrames p (f ∷ fs) → (to : State) (failed : Bool) → f.point.failed ≡ failed → Way gs f fs to failed → IsState p to
  top_stays gs f fs globals frames to true is way = absurd way
  top_stays gs f fs globals frames to false is way =
      let at = at_frame gs f fs globals frames way.0 is way.1 in
      stay_act gs f fs way.0 at (action p way.0) refl at.acts to way.2

  frames_stay : (gs : List Bool) (frames : List Frame) → length gs ≡ p.globals → AreFrames p frames → (to : State) → Moves p (record { globals = gs; frames = frames }) to → IsState p to
  frames_stay gs [] globals are to moves = absurd moves
  frames_stay gs (f ∷ fs) globals are to moves = top_stays gs f fs globals are to f.point.failed refl moves

  -- moves lead from states to states
  pub moves_stay : (from to : State) → IsState p from → Moves p from to → IsState p to
  moves_stay from to is moves = frames_stay from.globals from.frames is.globals is.frames to moves

  -- ---- picks make moves, and each move

  top_picked : (gs : List Bool) (f : Frame) (fs : List Frame) → length gs ≡ p.globals → AreFrames p (f ∷ fs) → (target : ℕ) (free : ℕ → Bool) (to : State) (failed : Bool) → f.point.failed ≡ failed
      → (if failed then None else top_acted p gs f fs target free (instruction_at p f.point.line)) ≡ Some to → Way gs f fs to failed
  top_picked gs f fs globals frames target free to true is e = cc
  top_picked gs f fs globals frames target free to false is e = by_line (instruction_at p f.point.line) refl e
    where
      by_line : (o : Option Instruction) → instruction_at p f.point.line ≡ o → top_acted p gs f fs target free o ≡ Some to → Way gs f fs to false
      by_line None there e = cc
      by_line (Some i) there e =
          let at = at_frame gs f fs globals frames i is there in
          (i, there, pick_act gs f fs i at (action p i) refl at.acts target free to e)

  frames_picked : (gs : List Bool) (frames : List Frame) → length gs ≡ p.globals → AreFrames p frames → (target : ℕ) (free : ℕ → Bool) (to : State) → step_of p (record { globals = gs; frames = frames }) target free ≡ Some to
      → Moves p (record { globals = gs; frames = frames }) to
  frames_picked gs [] globals are target free to e = cc
  frames_picked gs (f ∷ fs) globals are target free to e = top_picked gs f fs globals are target free to f.point.failed refl e

  pub step_moves : (from to : State) (target : ℕ) (free : ℕ → Bool) → IsState p from → step_of p from target free ≡ Some to → Moves p from to
  step_moves from to target free is e = frames_picked from.globals from.frames is.globals is.frames target free to e

  top_steps : (gs : List Bool) (f : Frame) (fs : List Frame) → length gs ≡ p.globals → AreFrames p (f ∷ fs) → (to : State) (failed : Bool) → f.point.failed ≡ failed → Way gs f fs to failed
      → (target : ℕ) × (free : ℕ → Bool) × ((if failed then None else top_acted p gs f fs target free (instruction_at p f.point.line)) ≡ Some to)
  top_steps gs f fs globals frames to true is way = absurd way
  top_steps gs f fs globals frames to false is way =
      let at = at_frame gs f fs globals frames way.0 is way.1 in
      let found = act_picks gs f fs way.0 at (action p way.0) refl at.acts to way.2 in
      (found.0, found.1, ap (top_acted p gs f fs found.0 found.1) way.1 ∙ found.2)

  frames_step : (gs : List Bool) (frames : List Frame) → length gs ≡ p.globals → AreFrames p frames → (to : State) → Moves p (record { globals = gs; frames = frames }) to
      → (target : ℕ) × (free : ℕ → Bool) × (step_of p (record { globals = gs; frames = frames }) target free ≡ Some to)
  frames_step gs [] globals are to moves = absurd moves
  frames_step gs (f ∷ fs) globals are to moves = top_steps gs f fs globals are to f.point.failed refl moves

  pub moves_step : (from to : State) → IsState p from → Moves p from to → (target : ℕ) × (free : ℕ → Bool) × (step_of p from target free ≡ Some to)
  moves_step from to is moves = frames_step from.globals from.frames is.globals is.frames to moves
