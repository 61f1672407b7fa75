-- A move of states as they are held is a move of the machine.
use Rattle.std.proofs.Common.{◌≡◌, ◌↔◌, ℕ, ◌+◌, Bool, true, false, ◌&&◌, nat_eq, List, [], ◌∷◌, ◌++◌, length, map, replicate, refl, sym, ap, ap₂, ◌∙◌, subst, length-append}
use Rattle.std.specs.Prelude.{Option, None, Some, slice_get, IsTrue, if◌then◌else◌}
use Rattle.std.proofs.lemmas.Bool.{eq-eqb}
use Rattle.std.proofs.lemmas.Option.{same_Some}
use Rattle.truth_tables.specs.Formulas.{Formula, Constant, Opposite}
use Rattle.boolean_programs.specs.declared.point.Point.{Point}
use Rattle.boolean_programs.specs.declared.statement.Choice.{Choice}
use Rattle.boolean_programs.specs.declared.statement.Choice.TheVariants.{Star, Is}
use Rattle.boolean_programs.specs.declared.statement.Statement.{Statement}
use Rattle.boolean_programs.specs.declared.statement.Statement.TheVariants.{Skip, Assign, Goto, Assume, Assert, Call, Return, If, Else, While, EndIf, EndWhile, EndProc}
use Rattle.boolean_programs.specs.Programs.{Procedure, Program, width}
use Rattle.boolean_programs.specs.Lists.{place_in}
use Rattle.boolean_programs.specs.Lines.{Instruction, line_numbers, code, instruction_at, first_line}
use Rattle.boolean_machine.specs.Machine.{at_line, always, State, bits, value_for, Action, Jumps, action_of, returns_of, Moves}
use Rattle.boolean_machine.specs.Lawful.{IsPointOf, IsLawfulAction, IsLawfulLine, IsLawful}
use Rattle.boolean_machine.specs.Picks.{listed}
use Rattle.boolean_machine.specs.Tests.{same_bits, same_point, same_frames, all_below, becomes, are_arguments, has_got, has_entered, has_resumed, has_ended, has_acted, has_moved}
use Rattle.boolean_meaning.specs.declared.state.Frame.{Frame as HeldFrame}
use Rattle.boolean_meaning.specs.declared.state.State.{State as HeldState}
use Rattle.boolean_meaning.specs.Bits.{bit_of, number_of}
use Rattle.boolean_meaning.specs.HeldStates.{width_of, width_at, frame_of, state_of, held_frame, held, IsHeld}
use Rattle.boolean_meaning.specs.Steps.{IsHeldMove}
use Rattle.boolean_meaning.specs.private.Outcomes.{bit_in, names_in}
use Rattle.boolean_meaning.specs.private.HeldMoves.{same_held_frames, have_got, held_got, held_jumped, held_entered, held_went_on, held_returned, has_held_acted, has_held_top_moved, has_held_moved}
use Rattle.boolean_meaning.proofs.ValueLemmas.{length_listed}
use Rattle.boolean_meaning.proofs.SpotLemmas.{found_index}
use Rattle.boolean_meaning.proofs.StateLemmas.{width_there, width_owner}
use Rattle.boolean_meaning.proofs.SameLemmas.{and_if, true_and, same_numbers, same_line, leads, way_to, ways_apart, ways_nowhere, ways_lead}

module _ (p : Program) where
  abbrev Exact : List HeldFrame → Type 0
  Exact fs = map held_frame (map (frame_of p) fs) ≡ fs

  first_exact : (f : HeldFrame) (fs : List HeldFrame) → Exact (f ∷ fs) → number_of (frame_of p f).locals ≡ f.locals
  first_exact f fs e =
      let same : held_frame (frame_of p f) ≡ f = cc in
      ap (λ (h : HeldFrame). h.locals) same

  rest_exact : (f : HeldFrame) (fs : List HeldFrame) → Exact (f ∷ fs) → Exact fs
  rest_exact f fs e = cc

  same_locals : (f g : HeldFrame) → f.point.line ≡ g.point.line → number_of (frame_of p f).locals ≡ f.locals → number_of (frame_of p g).locals ≡ g.locals
      → same_bits (frame_of p f).locals (frame_of p g).locals ≡ nat_eq f.locals g.locals
  same_locals f g e x y = same_numbers (width_at p f.point.line) (width_at p g.point.line) f.locals g.locals (ap (width_at p) e) x y

  frames_same : (fs gs : List HeldFrame) → Exact fs → Exact gs → same_frames (map (frame_of p) fs) (map (frame_of p) gs) ≡ same_held_frames fs gs
  frames_same [] [] x y = refl
  frames_same [] (g ∷ gs) x y = refl
  frames_same (f ∷ fs) [] x y = refl
  frames_same (f ∷ fs) (g ∷ gs) x y =
      and_if (same_point f.point g.point)
      (same_bits (frame_of p f).locals (frame_of p g).locals && same_frames (map (frame_of p) fs) (map (frame_of p) gs))
      (nat_eq f.locals g.locals && same_held_frames fs gs)
      (λ h.
      ap₂ (λ a b. a && b)
      (same_locals f g (same_line f.point g.point h) (first_exact f fs x) (first_exact g gs y))
      (frames_same fs gs (rest_exact f fs x) (rest_exact g gs y)))

  -- as many names as those of the procedure of a point
  point_wide : (procedure : ℕ) (x y : Point) → x.line ≡ y.line → IsPointOf p procedure y → width_at p x.line ≡ width_of p procedure
  point_wide procedure x y same is = ap (width_at p) same ∙ width_there p y.line is.instruction is.there ∙ ap (width_of p) is.owner

  -- ---- the second state has the globals `h`, and these frames

  module _ (g h : ℕ) (exact_old : number_of (listed p.globals (bit_of g)) ≡ g) (exact_new : number_of (listed p.globals (bit_of h)) ≡ h) where
    abbrev globals : List Bool
    globals = listed p.globals (bit_of g)

    abbrev globals' : List Bool
    globals' = listed p.globals (bit_of h)

    same_globals : same_bits globals' globals ≡ nat_eq h g
    same_globals = same_numbers p.globals p.globals h g refl exact_new exact_old

    abbrev new_state : List HeldFrame → State
    new_state fs = record { globals = globals'; frames = map (frame_of p) fs }

    abbrev old_held : List HeldFrame → HeldState
    old_held fs = record { globals = g; frames = fs }

    abbrev new_held : List HeldFrame → HeldState
    new_held fs = record { globals = h; frames = fs }

    -- ---- targets got values

    module _ (targets : List ℕ) (values : List Choice) (old : List Bool) where
      abbrev names : ℕ → ℕ → ℕ → ℕ → Bool
      names v w l k =
          all_below (length globals + length (listed v (bit_of l)))
          (λ j. becomes (value_for targets values j) (bit_in old) (bits globals (listed v (bit_of l))) j (bits globals' (listed w (bit_of k)) j))

      got_same : (from : List HeldFrame) (i : Instruction) (c : HeldFrame) (below fs : List HeldFrame) → instruction_at p c.point.line ≡ Some i
          → IsPointOf p i.procedure (at_line i.next) → Exact below → Exact fs
          → has_got targets values (bit_in old) globals (frame_of p c).locals (at_line i.next) (map (frame_of p) below) (new_state fs)
          ≡ held_got p i targets values old (old_held from) (new_held fs) c below (slice_get fs 0)
      got_same from i c below [] at next x y = refl
      got_same from i c below (f ∷ fs) at next x y =
          and_if (same_point f.point (at_line i.next))
          (same_frames (map (frame_of p) fs) (map (frame_of p) below)
          && (nat_eq (length globals') (length globals) && (nat_eq (length (frame_of p f).locals) (length (frame_of p c).locals) && names (width_at p c.point.line) (width_at p f.point.line) c.locals f.locals)))
          (same_held_frames fs below && have_got targets values old (names_in p i.procedure g c.locals) (names_in p i.procedure h f.locals))
          (λ there.
          let w = width_of p i.procedure in
          let old_wide : width_at p c.point.line ≡ w = width_there p c.point.line i at in
          let new_wide : width_at p f.point.line ≡ w = point_wide i.procedure f.point (at_line i.next) (same_line f.point (at_line i.next) there) next in
          let long : nat_eq (length globals') (length globals) ≡ true =
          eq-eqb (length globals') (length globals) (length_listed p.globals (bit_of h) ∙ sym (length_listed p.globals (bit_of g))) in
          let wide : nat_eq (length (frame_of p f).locals) (length (frame_of p c).locals) ≡ true =
          eq-eqb (length (frame_of p f).locals) (length (frame_of p c).locals)
          (length_listed (width_at p f.point.line) (bit_of f.locals) ∙ new_wide ∙ sym old_wide ∙ sym (length_listed (width_at p c.point.line) (bit_of c.locals))) in
          let all : names (width_at p c.point.line) (width_at p f.point.line) c.locals f.locals ≡ have_got targets values old (names_in p i.procedure g c.locals) (names_in p i.procedure h f.locals) =
          ap₂ (λ a b. names a b c.locals f.locals) old_wide new_wide
          ∙ ap (λ n. all_below n (λ j. becomes (value_for targets values j) (bit_in old) (bits globals (listed w (bit_of c.locals))) j (bits globals' (listed w (bit_of f.locals)) j)))
          (sym (length-append globals (listed w (bit_of c.locals)))) in
          ap₂ (λ a b. a && b) (frames_same fs below (rest_exact f fs y) x)
          (true_and (nat_eq (length globals') (length globals)) (nat_eq (length (frame_of p f).locals) (length (frame_of p c).locals) && names (width_at p c.point.line) (width_at p f.point.line) c.locals f.locals) long
          ∙ true_and (nat_eq (length (frame_of p f).locals) (length (frame_of p c).locals)) (names (width_at p c.point.line) (width_at p f.point.line) c.locals f.locals) wide
          ∙ all))

    -- ---- a line that only jumps

    module _ (i : Instruction) (f : HeldFrame) (below : List HeldFrame) (at : instruction_at p f.point.line ≡ Some i) (exact_top : number_of (frame_of p f).locals ≡ f.locals) (exact_below : Exact below) where
      abbrev old : List Bool
      old = globals ++ (frame_of p f).locals

      abbrev act : Action → List HeldFrame → Bool
      act a fs = has_acted p i globals (frame_of p f) (map (frame_of p) below) (new_state fs) a

      jump_same : (st : Statement) (ways : List (Formula ℕ × Point)) → action_of (returns_of p i.procedure) i st ≡ Jumps ways
          → ((k : ℕ) (w : Formula ℕ × Point) → slice_get ways k ≡ Some w → IsPointOf p i.procedure w.1)
          → (fs : List HeldFrame) → Exact fs
          → act (action_of (returns_of p i.procedure) i st) fs ≡ held_jumped i st (bit_in old) (old_held (f ∷ below)) (new_held fs) f.locals (slice_get fs 0)
      jump_same st ways a within [] y = ap (λ b. act b []) a ∙ ways_nowhere ways (bit_in old) (same_bits globals' globals)
      jump_same st ways a within (t ∷ ts) y =
          let after = frame_of p t in
          let tail = same_bits after.locals (frame_of p f).locals && same_frames (map (frame_of p) ts) (map (frame_of p) below) in
          ap (λ b. act b (t ∷ ts)) a ∙ ways_apart ways (bit_in old) t.point (same_bits globals' globals) tail
          ∙ ap₂ (λ x z. x && z) same_globals
          (and_if (leads ways (bit_in old) t.point) tail (nat_eq t.locals f.locals && same_held_frames ts below)
          (λ to.
          let way = way_to ways (bit_in old) t.point to in
          let wide : width_at p t.point.line ≡ width_at p f.point.line =
          point_wide i.procedure t.point way.1.1 way.3 (within way.0 way.1 way.2) ∙ sym (width_there p f.point.line i at) in
          ap₂ (λ x z. x && z)
          (same_numbers (width_at p t.point.line) (width_at p f.point.line) t.locals f.locals wide (first_exact t ts y) exact_top)
          (frames_same ts below (rest_exact t ts y) exact_below))
          ∙ ap (λ b. b && (nat_eq t.locals f.locals && same_held_frames ts below)) (ways_lead t.point (bit_in old) i (returns_of p i.procedure) st ways a))

      -- ---- a call

      enter_same : (callee : ℕ) (arguments : List Choice) (o : Option Procedure) → slice_get p.procs callee ≡ o
          → ((q : Procedure) → slice_get p.procs callee ≡ Some q → IsPointOf p callee (at_line (first_line q.body)))
          → Exact (f ∷ below) → (fs : List HeldFrame) → Exact fs
          → (elim o [ None ↦ false | Some q ↦ has_entered q arguments (bit_in old) globals (frame_of p f ∷ map (frame_of p) below) (new_state fs) ])
          ≡ held_entered o arguments (bit_in old) (old_held (f ∷ below)) (new_held fs) (slice_get fs 0)
      enter_same callee arguments None e begins x fs y = refl
      enter_same callee arguments (Some q) e begins x [] y = refl
      enter_same callee arguments (Some q) e begins x (t ∷ ts) y =
          let first = at_line (first_line q.body) in
          ap₂ (λ a b. a && b) same_globals
          (and_if (same_point t.point first)
          (same_frames (map (frame_of p) ts) (frame_of p f ∷ map (frame_of p) below) && (nat_eq (length (frame_of p t).locals) (width q) && are_arguments (bit_in old) arguments (frame_of p t).locals))
          (same_held_frames ts (f ∷ below) && are_arguments (bit_in old) arguments (listed (width q) (bit_of t.locals)))
          (λ there.
          let wide : width_at p t.point.line ≡ width q =
          point_wide callee t.point first (same_line t.point first there) (begins q e) ∙ width_owner p callee q e in
          let long : nat_eq (length (frame_of p t).locals) (width q) ≡ true =
          eq-eqb (length (frame_of p t).locals) (width q) (length_listed (width_at p t.point.line) (bit_of t.locals) ∙ wide) in
          ap₂ (λ a b. a && b) (frames_same ts (f ∷ below) (rest_exact t ts y) x)
          (true_and (nat_eq (length (frame_of p t).locals) (width q)) (are_arguments (bit_in old) arguments (frame_of p t).locals) long
          ∙ ap (λ w. are_arguments (bit_in old) arguments (listed w (bit_of t.locals))) wide)))

    -- ---- a return

    module _ (lawful : IsLawful p) (values : List Choice) (old : List Bool) (top : HeldFrame) where
      line_at : (n : ℕ) (i : Instruction) → instruction_at p n ≡ Some i → IsLawfulLine p i
      line_at n i e =
          let index = found_index (code p) (place_in (line_numbers (code p)) n) i e in
          lawful.lines index.0 i index.1

      return_same : (below : List HeldFrame) → Exact below → (fs : List HeldFrame) → Exact fs
          → has_ended p values (bit_in old) globals (map (frame_of p) below) (new_state fs)
          ≡ held_returned p values old (old_held (top ∷ below)) (new_held fs) (slice_get below 0)
      return_same [] x [] y = ap (λ b. b && true) same_globals
      return_same [] x (t ∷ ts) y = ap (λ b. b && false) same_globals
      return_same (c ∷ rest) x fs y = by_found (instruction_at p c.point.line) refl
        where
          by_statement : (call : Instruction) → instruction_at p c.point.line ≡ Some call → (st : Statement) → call.statement ≡ st
              → ◌≡◌ {A = Bool}
              (elim st [
                | Call targets callee arguments ↦ has_got targets values (bit_in old) globals (frame_of p c).locals (at_line call.next) (map (frame_of p) rest) (new_state fs)
                | _ ↦ false
              ])
              (elim st [
                | Call targets callee arguments ↦ held_got p call targets values old (old_held (top ∷ c ∷ rest)) (new_held fs) c rest (slice_get fs 0)
                | _ ↦ false
              ])
          by_statement call at (Call targets callee arguments) e =
              let line = line_at c.point.line call at in
              let lawful_call : IsLawfulAction p call line.owner (p.globals + width line.owner) (action_of (returns_of p call.procedure) call (Call targets callee arguments)) =
              subst (λ (s : Statement). IsLawfulAction p call line.owner (p.globals + width line.owner) (action_of (returns_of p call.procedure) call s)) e line.acts in
              got_same targets values old (top ∷ c ∷ rest) call c rest fs at lawful_call.3 (rest_exact c rest x) y
          by_statement call at Skip e = refl
          by_statement call at (Assign targets vs) e = refl
          by_statement call at (Goto lines) e = refl
          by_statement call at (Assume f) e = refl
          by_statement call at (Assert f) e = refl
          by_statement call at (Return vs) e = refl
          by_statement call at (If f) e = refl
          by_statement call at Else e = refl
          by_statement call at (While f) e = refl
          by_statement call at EndIf e = refl
          by_statement call at EndWhile e = refl
          by_statement call at EndProc e = refl

          by_found : (o : Option Instruction) → instruction_at p c.point.line ≡ o
              → has_resumed values (bit_in old) globals (frame_of p c) (map (frame_of p) rest) (new_state fs) o
              ≡ held_went_on p values old (old_held (top ∷ c ∷ rest)) (new_held fs) c o
          by_found None at = refl
          by_found (Some call) at = by_statement call at call.statement refl

    -- ---- the top frame

    module _ (lawful : IsLawful p) (f : HeldFrame) (below : List HeldFrame) (exact : Exact (f ∷ below)) (fs : List HeldFrame) (exact_fs : Exact fs) (i : Instruction) (at : instruction_at p f.point.line ≡ Some i) where
      abbrev names_old : List Bool
      names_old = globals ++ (frame_of p f).locals

      line : IsLawfulLine p i
      line = let index = found_index (code p) (place_in (line_numbers (code p)) f.point.line) i at in lawful.lines index.0 i index.1

      lawful_as : (st : Statement) → i.statement ≡ st → IsLawfulAction p i line.owner (p.globals + width line.owner) (action_of (returns_of p i.procedure) i st)
      lawful_as st e = subst (λ (s : Statement). IsLawfulAction p i line.owner (p.globals + width line.owner) (action_of (returns_of p i.procedure) i s)) e line.acts

      jumped : (st : Statement) → i.statement ≡ st → (ways : List (Formula ℕ × Point)) → action_of (returns_of p i.procedure) i st ≡ Jumps ways
          → has_acted p i globals (frame_of p f) (map (frame_of p) below) (new_state fs) (action_of (returns_of p i.procedure) i st)
          ≡ held_jumped i st (bit_in names_old) (old_held (f ∷ below)) (new_held fs) f.locals (slice_get fs 0)
      jumped st e ways a =
          let acts : IsLawfulAction p i line.owner (p.globals + width line.owner) (Jumps ways) =
          subst (λ (b : Action). IsLawfulAction p i line.owner (p.globals + width line.owner) b) a (lawful_as st e) in
          jump_same i f below at (first_exact f below exact) (rest_exact f below exact) st ways a (λ k w s. (acts k w s).1) fs exact_fs

      acts_same : (st : Statement) → i.statement ≡ st
          → has_acted p i globals (frame_of p f) (map (frame_of p) below) (new_state fs) (action_of (returns_of p i.procedure) i st)
          ≡ has_held_acted p i st names_old f (old_held (f ∷ below)) (new_held fs)
      acts_same (Assign targets values) e =
          got_same targets values names_old (f ∷ below) i f below fs at (lawful_as (Assign targets values) e).3 (rest_exact f below exact) exact_fs
      acts_same (Call targets callee arguments) e =
          enter_same i f below at (first_exact f below exact) (rest_exact f below exact) callee arguments (slice_get p.procs callee) refl
          (λ q found.
          let fits = (lawful_as (Call targets callee arguments) e).0 in
          subst (λ (r : Procedure). IsPointOf p callee (at_line (first_line r.body))) (same_Some fits.procedure q (sym fits.found ∙ found)) fits.begins)
          exact fs exact_fs
      acts_same (Return values) e = return_same lawful values names_old f below (rest_exact f below exact) fs exact_fs
      acts_same EndProc e = return_same lawful (replicate (returns_of p i.procedure) Star) names_old f below (rest_exact f below exact) fs exact_fs
      acts_same Skip e = jumped Skip e (always i.next ∷ []) refl
      acts_same EndIf e = jumped EndIf e (always i.next ∷ []) refl
      acts_same (Goto lines) e = jumped (Goto lines) e (map always lines) refl
      acts_same (Assume c) e = jumped (Assume c) e ((c, at_line i.next) ∷ []) refl
      acts_same (Assert c) e = jumped (Assert c) e ((c, at_line i.next) ∷ (Opposite c, record { line = i.line; failed = true }) ∷ []) refl
      acts_same (If Star) e = jumped (If Star) e ((Constant true, at_line i.next) ∷ (Constant true, at_line i.other) ∷ []) refl
      acts_same (If (Is c)) e = jumped (If (Is c)) e ((c, at_line i.next) ∷ (Opposite c, at_line i.other) ∷ []) refl
      acts_same Else e = jumped Else e (always i.other ∷ []) refl
      acts_same (While Star) e = jumped (While Star) e ((Constant true, at_line i.next) ∷ (Constant true, at_line i.other) ∷ []) refl
      acts_same (While (Is c)) e = jumped (While (Is c)) e ((c, at_line i.next) ∷ (Opposite c, at_line i.other) ∷ []) refl
      acts_same EndWhile e = jumped EndWhile e (always i.other ∷ []) refl

-- ---- whole states

module _ (p : Program) (lawful : IsLawful p) where
  moved_by : (g h : ℕ) (es fs : List HeldFrame)
      → held (state_of p (record { globals = g; frames = es })) ≡ record { globals = g; frames = es }
      → held (state_of p (record { globals = h; frames = fs })) ≡ record { globals = h; frames = fs }
      → has_moved p (state_of p (record { globals = g; frames = es })) (state_of p (record { globals = h; frames = fs }))
      ≡ has_held_moved p (record { globals = g; frames = es }) (record { globals = h; frames = fs })
  moved_by g h [] fs x y = refl
  moved_by g h (f ∷ below) fs x y = by_failed f.point.failed
    where
      exact_old : number_of (listed p.globals (bit_of g)) ≡ g
      exact_old = ap (λ (t : HeldState). t.globals) x

      exact_new : number_of (listed p.globals (bit_of h)) ≡ h
      exact_new = ap (λ (t : HeldState). t.globals) y

      by_found : (o : Option Instruction) → instruction_at p f.point.line ≡ o
          → (elim o [
            | None ↦ false
            | Some i ↦ has_acted p i (listed p.globals (bit_of g)) (frame_of p f) (map (frame_of p) below) (state_of p (record { globals = h; frames = fs })) (action_of (returns_of p i.procedure) i i.statement)
          ])
          ≡ has_held_top_moved p f (record { globals = g; frames = f ∷ below }) (record { globals = h; frames = fs }) o
      by_found None at = refl
      by_found (Some i) at =
          acts_same p g h exact_old exact_new lawful f below (ap (λ (t : HeldState). t.frames) x) fs (ap (λ (t : HeldState). t.frames) y) i at i.statement refl
          ∙ ap (λ w. has_held_acted p i i.statement (listed p.globals (bit_of g) ++ listed w (bit_of f.locals)) f (record { globals = g; frames = f ∷ below }) (record { globals = h; frames = fs }))
          (width_there p f.point.line i at)

      by_failed : (b : Bool) → (elim b [
        | true ↦ false
        | false ↦ elim (instruction_at p f.point.line) [
          | None ↦ false
          | Some i ↦ has_acted p i (listed p.globals (bit_of g)) (frame_of p f) (map (frame_of p) below) (state_of p (record { globals = h; frames = fs })) (action_of (returns_of p i.procedure) i i.statement)
        ]
      ])
          ≡ (if b then false else has_held_top_moved p f (record { globals = g; frames = f ∷ below }) (record { globals = h; frames = fs }) (instruction_at p f.point.line))
      by_failed true = refl
      by_failed false = by_found (instruction_at p f.point.line) refl

  -- the test of moves is that of the machine, on states as they are held
  pub moved_same : (from to : HeldState) → IsHeld p from → IsHeld p to → has_moved p (state_of p from) (state_of p to) ≡ has_held_moved p from to
  moved_same from to x y = moved_by from.globals to.globals from.frames to.frames x.exact y.exact

  -- the test is true of the moves of the machine
  pub move_tested : (from to : HeldState) → IsHeld p from → IsHeld p to
      → (IsTrue (has_moved p (state_of p from) (state_of p to)) ↔ Moves p (state_of p from) (state_of p to))
      → (answer : Bool) → answer ≡ has_held_moved p from to → IsTrue answer ↔ IsHeldMove p from to
  move_tested from to x y tested answer e =
      let same = e ∙ sym (moved_same from to x y) in (
        λ h. record { from_is = x; to_is = y; moves = tested.0 (sym same ∙ h) },
        λ m. same ∙ tested.1 m.moves,
      )
