-- A step on a state as it is held is a step of the machine.
use Rattle.std.proofs.Common.{◌≡◌, ℕ, zero, suc, ◌+◌, Bool, true, false, not, List, [], ◌∷◌, ◌++◌, length, take, drop, map, replicate, refl, sym, ap, ap₂, ◌∙◌, subst, arith}
use Rattle.std.specs.Prelude.{Option, None, Some, slice_get, option_map, MatchOption, if◌then◌else◌}
use Rattle.std.proofs.lemmas.Option.{same_Some, slice_get-map}
use Rattle.truth_tables.specs.Formulas.{Formula, Constant, Opposite}
use Rattle.boolean_programs.specs.declared.point.Point.{Point}
use Rattle.boolean_programs.specs.declared.statement.Choice.{Choice}
use Rattle.boolean_programs.specs.declared.statement.Choice.TheVariants.{Star, Is}
use Rattle.boolean_programs.specs.declared.statement.Statement.{Statement}
use Rattle.boolean_programs.specs.declared.statement.Statement.TheVariants.{Skip, Assign, Goto, Assume, Assert, Call, Return, If, Else, While, EndIf, EndWhile, EndProc}
use Rattle.boolean_programs.specs.Programs.{Procedure, Program}
use Rattle.boolean_programs.specs.Lines.{Instruction, instruction_at, first_line}
use Rattle.boolean_machine.specs.Machine.{at_line, always, Frame, State, bits, value_at, Action, Jumps, on_top, action_of, returns_of}
use Rattle.boolean_machine.specs.Picks.{listed, picked, written, on_written, way_taken, resumed, ended, acted, top_acted, step_of}
use Rattle.boolean_meaning.specs.declared.state.Frame.{Frame as HeldFrame}
use Rattle.boolean_meaning.specs.declared.state.State.{State as HeldState}
use Rattle.boolean_meaning.specs.Bits.{bit_of, number_of}
use Rattle.boolean_meaning.specs.HeldStates.{width_of, width_at, frame_of, state_of, held_frame, held, IsHeld}
use Rattle.boolean_machine.specs.States.{IsState}
use Rattle.boolean_meaning.specs.Steps.{IsStepped}
use Rattle.boolean_meaning.specs.private.Outcomes.{IsOutcome, entry_bits, bit_in, names_in, star_point, target_point, names_written, held_at, held_resumed, held_ended, held_jump, held_acted, held_top_acted, held_step}
use Rattle.boolean_meaning.proofs.ValueLemmas.{length_listed, listed_same, length_names}
use Rattle.boolean_meaning.proofs.StateLemmas.{width_there, state_held}

-- ---- lists by a function

take_listed : (a b : ℕ) (f : ℕ → Bool) → take a (listed (a + b) f) ≡ listed a f
take_listed zero b f = refl
take_listed (suc a) b f =
    ap (λ n. take (suc a) (listed n f)) (let e : suc a + b ≡ suc (a + b) = omega arith in e)
    ∙ ap (λ bs. f 0 ∷ bs) (take_listed a b (λ k. f (suc k)))

drop_listed : (a b : ℕ) (f : ℕ → Bool) → drop a (listed (a + b) f) ≡ listed b (λ j. f (a + j))
drop_listed zero b f =
    ap (λ n. listed n f) (let e : 0 + b ≡ b = omega arith in e) ∙ listed_same b f (λ j. f (0 + j)) (λ k. ap f (let e : k ≡ 0 + k = omega arith in e))
drop_listed (suc a) b f =
    ap (λ n. drop (suc a) (listed n f)) (let e : suc a + b ≡ suc (a + b) = omega arith in e)
    ∙ drop_listed a b (λ k. f (suc k)) ∙ listed_same b (λ j. f (suc (a + j))) (λ j. f (suc a + j)) (λ k. ap f (let e : suc (a + k) ≡ suc a + k = omega arith in e))

-- ---- where a line leads that only jumps

jumps_same : {a b : List (Formula ℕ × Point)} → Jumps a ≡ Jumps b → a ≡ b
jumps_same e = cc

abbrev Way : Type 0
Way = Formula ℕ × Point

abbrev points_of : Option Way → Option Point
points_of o = option_map (λ (w : Way). w.1) o

one_way : (b : Bool) (e : Formula ℕ) (x : Point) → points_of (if b then Some (e, x) else None) ≡ (if b then Some x else None)
one_way true e x = refl
one_way false e x = refl

two_ways : (b : Bool) (e : Formula ℕ) (x y : Point)
    → points_of (if b then Some (e, x) else (if not b then Some (Opposite e, y) else None)) ≡ Some (if b then x else y)
two_ways true e x y = refl
two_ways false e x y = refl

goto_ways : (lines : List ℕ) (target : ℕ) → points_of (slice_get (map always lines) target) ≡ option_map at_line (slice_get lines target)
goto_ways lines target = ap points_of (slice_get-map always lines target) ∙ by_line (slice_get lines target)
  where
    by_line : (o : Option ℕ) → points_of (option_map always o) ≡ option_map at_line o
    by_line None = refl
    by_line (Some n) = refl

module _ (i : Instruction) (target : ℕ) (old : ℕ → Bool) where
  star_ways : (t : ℕ) → points_of (slice_get ((Constant true, at_line i.next) ∷ (Constant true, at_line i.other) ∷ []) t) ≡ star_point i t
  star_ways zero = refl
  star_ways (suc zero) = refl
  star_ways (suc (suc t)) = refl

  -- where a line leads by its ways is where it leads as it is held
  pub ways_lead : (r : ℕ) (s : Statement) (ways : List Way) → action_of r i s ≡ Jumps ways → points_of (way_taken s target old ways) ≡ target_point i target old s
  ways_lead r Skip ways e = let same : always i.next ∷ [] ≡ ways = jumps_same e in ap (λ ws. points_of (way_taken Skip target old ws)) (sym same)
  ways_lead r EndIf ways e = let same : always i.next ∷ [] ≡ ways = jumps_same e in ap (λ ws. points_of (way_taken EndIf target old ws)) (sym same)
  ways_lead r (Assign targets values) ways e = cc
  ways_lead r (Goto lines) ways e =
      let same : map always lines ≡ ways = jumps_same e in ap (λ ws. points_of (way_taken (Goto lines) target old ws)) (sym same) ∙ goto_ways lines target
  ways_lead r (Assume f) ways e =
      let same : (f, at_line i.next) ∷ [] ≡ ways = jumps_same e in
      ap (λ ws. points_of (way_taken (Assume f) target old ws)) (sym same) ∙ one_way (value_at old f) f (at_line i.next)
  ways_lead r (Assert f) ways e =
      let failure : Point = record { line = i.line; failed = true } in
      let same : (f, at_line i.next) ∷ (Opposite f, failure) ∷ [] ≡ ways = jumps_same e in
      ap (λ ws. points_of (way_taken (Assert f) target old ws)) (sym same) ∙ two_ways (value_at old f) f (at_line i.next) failure
  ways_lead r (Call targets callee arguments) ways e = cc
  ways_lead r (Return values) ways e = cc
  ways_lead r (If Star) ways e =
      let same : (Constant true, at_line i.next) ∷ (Constant true, at_line i.other) ∷ [] ≡ ways = jumps_same e in
      ap (λ ws. points_of (way_taken (If Star) target old ws)) (sym same) ∙ star_ways target
  ways_lead r (If (Is f)) ways e =
      let same : (f, at_line i.next) ∷ (Opposite f, at_line i.other) ∷ [] ≡ ways = jumps_same e in
      ap (λ ws. points_of (way_taken (If (Is f)) target old ws)) (sym same) ∙ two_ways (value_at old f) f (at_line i.next) (at_line i.other)
  ways_lead r Else ways e = let same : always i.other ∷ [] ≡ ways = jumps_same e in ap (λ ws. points_of (way_taken Else target old ws)) (sym same)
  ways_lead r (While Star) ways e =
      let same : (Constant true, at_line i.next) ∷ (Constant true, at_line i.other) ∷ [] ≡ ways = jumps_same e in
      ap (λ ws. points_of (way_taken (While Star) target old ws)) (sym same) ∙ star_ways target
  ways_lead r (While (Is f)) ways e =
      let same : (f, at_line i.next) ∷ (Opposite f, at_line i.other) ∷ [] ≡ ways = jumps_same e in
      ap (λ ws. points_of (way_taken (While (Is f)) target old ws)) (sym same) ∙ two_ways (value_at old f) f (at_line i.next) (at_line i.other)
  ways_lead r EndWhile ways e = let same : always i.other ∷ [] ≡ ways = jumps_same e in ap (λ ws. points_of (way_taken EndWhile target old ws)) (sym same)
  ways_lead r EndProc ways e = cc

-- ---- one step

abbrev state_with : ℕ → Point → ℕ → List HeldFrame → HeldState
state_with g point l under = record { globals = g; frames = record { point = point; locals = l } ∷ under }

same_state_with : (a b : ℕ) (point : Point) (c d : ℕ) (fs gs : List HeldFrame) → a ≡ b → c ≡ d → fs ≡ gs → state_with a point c fs ≡ state_with b point d gs
same_state_with a b point c d fs gs x y z = ap₂ (λ (n : ℕ) (h : HeldState). record { globals = n; frames = h.frames }) x (ap₂ (λ (l : ℕ) (hs : List HeldFrame). state_with b point l hs) y z)

module _ (p : Program) (g : ℕ) (exact_globals : number_of (listed p.globals (bit_of g)) ≡ g) where
  abbrev globals : List Bool
  globals = listed p.globals (bit_of g)

  -- targets that got bits, as they are held
  written_held : (targets : List ℕ) (new : List Bool) (w l : ℕ) (point : Point) (below : List Frame) (under : List HeldFrame) → map held_frame below ≡ under
      → held (on_written targets new globals point (listed w (bit_of l)) below) ≡ held_at p.globals (names_written targets new (globals ++ listed w (bit_of l))) point under
  written_held targets new w l point below under e =
      let old : List Bool = globals ++ listed w (bit_of l) in
      let f : ℕ → Bool = written targets new (bit_in old) in
      let long : length old ≡ p.globals + w = length_names p.globals w (bit_of g) (bit_of l) in
      let first : listed (length globals) f ≡ take p.globals (names_written targets new old) =
      ap (λ n. listed n f) (length_listed p.globals (bit_of g)) ∙ sym (ap (λ n. take p.globals (listed n f)) long ∙ take_listed p.globals w f) in
      let last : listed (length (listed w (bit_of l))) (λ j. f (length globals + j)) ≡ drop p.globals (names_written targets new old) =
      ap₂ (λ (n m : ℕ). listed n (λ j. f (m + j))) (length_listed w (bit_of l)) (length_listed p.globals (bit_of g))
      ∙ sym (ap (λ n. drop p.globals (listed n f)) long ∙ drop_listed p.globals w f) in
      same_state_with (number_of (listed (length globals) f)) (number_of (take p.globals (names_written targets new old))) point
      (number_of (listed (length (listed w (bit_of l))) (λ j. f (length globals + j)))) (number_of (drop p.globals (names_written targets new old)))
      (map held_frame below) under (ap number_of first) (ap number_of last) e

  module _ (top c : HeldFrame) (rest : List HeldFrame) (exact : map held_frame (map (frame_of p) rest) ≡ rest) (new : List Bool) (call : Instruction) (wide : width_at p c.point.line ≡ width_of p call.procedure) where
    abbrev resumed_by : Statement → Option State
    resumed_by st = elim st [
      | Call targets callee arguments ↦ Some (on_written targets new globals (at_line call.next) (frame_of p c).locals (map (frame_of p) rest))
      | _ ↦ None
    ]

    abbrev held_resumed_by : Statement → Option HeldState
    held_resumed_by st = elim st [
      | Call targets callee arguments ↦ Some (held_at p.globals (names_written targets new (names_in p call.procedure g c.locals)) (at_line call.next) rest)
      | _ ↦ None
    ]

    by_statement : (st : Statement) → option_map held (resumed_by st) ≡ held_resumed_by st
    by_statement (Call targets callee arguments) =
        ap (λ (t : HeldState). Some t) (written_held targets new (width_at p c.point.line) c.locals (at_line call.next) (map (frame_of p) rest) rest exact)
        ∙ ap (λ w. Some (held_at p.globals (names_written targets new (globals ++ listed w (bit_of c.locals))) (at_line call.next) rest)) wide
    by_statement Skip = refl
    by_statement (Assign targets values) = refl
    by_statement (Goto lines) = refl
    by_statement (Assume e) = refl
    by_statement (Assert e) = refl
    by_statement (Return values) = refl
    by_statement (If c) = refl
    by_statement Else = refl
    by_statement (While c) = refl
    by_statement EndIf = refl
    by_statement EndWhile = refl
    by_statement EndProc = refl

  ended_same : (top : HeldFrame) (below : List HeldFrame) → map held_frame (map (frame_of p) below) ≡ below → (new : List Bool)
      → option_map held (ended p new globals (map (frame_of p) below)) ≡ held_ended p new (record { globals = g; frames = top ∷ below }) (slice_get below 0)
  ended_same top [] exact new = ap (λ n. let t : HeldState = record { globals = n; frames = [] } in Some t) exact_globals
  ended_same top (c ∷ rest) exact new = by_found (instruction_at p c.point.line) refl
    where
      tail : map held_frame (map (frame_of p) rest) ≡ rest
      tail = cc

      by_found : (o : Option Instruction) → instruction_at p c.point.line ≡ o
          → option_map held (resumed new globals (frame_of p c) (map (frame_of p) rest) o) ≡ held_resumed p new (record { globals = g; frames = top ∷ c ∷ rest }) c o
      by_found None e = refl
      by_found (Some call) e = by_statement top c rest tail new call (width_there p c.point.line call e) call.statement

  module _ (f : HeldFrame) (below : List HeldFrame) (exact_top : number_of (frame_of p f).locals ≡ f.locals) (exact_frames : held_frame (frame_of p f) ∷ map held_frame (map (frame_of p) below) ≡ f ∷ below) (exact_below : map held_frame (map (frame_of p) below) ≡ below) (target : ℕ) (free : ℕ → Bool) (i : Instruction) where
    abbrev s : HeldState
    s = record { globals = g; frames = f ∷ below }

    abbrev old : List Bool
    old = globals ++ (frame_of p f).locals

    abbrev act : Action → Option State
    act a = acted p i globals (frame_of p f) (map (frame_of p) below) target free a

    through_points : (o : Option Way) → option_map held (option_map (λ (w : Way). on_top globals w.1 (frame_of p f).locals (map (frame_of p) below)) o) ≡ held_jump s f.locals (points_of o)
    through_points None = refl
    through_points (Some w) =
        ap (λ (t : HeldState). Some t) (same_state_with (number_of globals) g w.1 (number_of (frame_of p f).locals) f.locals (map held_frame (map (frame_of p) below)) below exact_globals exact_top exact_below)

    jump_same : (st : Statement) → i.statement ≡ st → (ways : List Way) → action_of (returns_of p i.procedure) i st ≡ Jumps ways
        → option_map held (act (action_of (returns_of p i.procedure) i st)) ≡ held_jump s f.locals (target_point i target (bit_in old) st)
    jump_same st e ways a =
        ap (λ (b : Action). option_map held (act b)) a ∙ through_points (way_taken i.statement target (bit_in old) ways)
        ∙ ap (held_jump s f.locals) (ap (λ t. points_of (way_taken t target (bit_in old) ways)) e ∙ ways_lead i target (bit_in old) (returns_of p i.procedure) st ways a)

    call_same : (arguments : List Choice) (o : Option Procedure)
        → option_map held (option_map (λ (q : Procedure). on_top globals (at_line (first_line q.body)) (entry_bits q arguments (bit_in old) free) (frame_of p f ∷ map (frame_of p) below)) o)
        ≡ option_map (λ (q : Procedure). let t : HeldState = record { globals = g; frames = record { point = at_line (first_line q.body); locals = number_of (entry_bits q arguments (bit_in old) free) } ∷ f ∷ below } in t) o
    call_same arguments None = refl
    call_same arguments (Some q) =
        let l = number_of (entry_bits q arguments (bit_in old) free) in
        ap (λ (t : HeldState). Some t) (same_state_with (number_of globals) g (at_line (first_line q.body)) l l (held_frame (frame_of p f) ∷ map held_frame (map (frame_of p) below)) (f ∷ below) exact_globals refl exact_frames)

    acts_same : (st : Statement) → i.statement ≡ st → option_map held (act (action_of (returns_of p i.procedure) i st)) ≡ held_acted p i st s f.locals old target free
    acts_same (Assign targets values) e =
        ap (λ (t : HeldState). Some t) (written_held targets (picked (bit_in old) free 0 values) (width_at p f.point.line) f.locals (at_line i.next) (map (frame_of p) below) below exact_below)
    acts_same (Call targets callee arguments) e = call_same arguments (slice_get p.procs callee)
    acts_same (Return values) e = ended_same f below exact_below (picked (bit_in old) free 0 values)
    acts_same EndProc e = ended_same f below exact_below (picked (bit_in old) free 0 (replicate (returns_of p i.procedure) Star))
    acts_same Skip e = jump_same Skip e (always i.next ∷ []) refl
    acts_same EndIf e = jump_same EndIf e (always i.next ∷ []) refl
    acts_same (Goto lines) e = jump_same (Goto lines) e (map always lines) refl
    acts_same (Assume c) e = jump_same (Assume c) e ((c, at_line i.next) ∷ []) refl
    acts_same (Assert c) e = jump_same (Assert c) e ((c, at_line i.next) ∷ (Opposite c, record { line = i.line; failed = true }) ∷ []) refl
    acts_same (If Star) e = jump_same (If Star) e ((Constant true, at_line i.next) ∷ (Constant true, at_line i.other) ∷ []) refl
    acts_same (If (Is c)) e = jump_same (If (Is c)) e ((c, at_line i.next) ∷ (Opposite c, at_line i.other) ∷ []) refl
    acts_same Else e = jump_same Else e (always i.other ∷ []) refl
    acts_same (While Star) e = jump_same (While Star) e ((Constant true, at_line i.next) ∷ (Constant true, at_line i.other) ∷ []) refl
    acts_same (While (Is c)) e = jump_same (While (Is c)) e ((c, at_line i.next) ∷ (Opposite c, at_line i.other) ∷ []) refl
    acts_same EndWhile e = jump_same EndWhile e (always i.other ∷ []) refl

module _ (p : Program) (target : ℕ) (free : ℕ → Bool) where
  choose : (b : Bool) (x : Option State) (y : Option HeldState) → option_map held x ≡ y → option_map held (if b then None else x) ≡ (if b then None else y)
  choose true x y e = refl
  choose false x y e = e

  step_by : (g : ℕ) (fs : List HeldFrame) → held (state_of p (record { globals = g; frames = fs })) ≡ record { globals = g; frames = fs }
      → option_map held (step_of p (state_of p (record { globals = g; frames = fs })) target free) ≡ held_step p (record { globals = g; frames = fs }) target free
  step_by g [] e = refl
  step_by g (f ∷ below) e =
      choose f.point.failed (top_acted p (listed p.globals (bit_of g)) (frame_of p f) (map (frame_of p) below) target free (instruction_at p f.point.line))
      (held_top_acted p (record { globals = g; frames = f ∷ below }) f.locals target free (instruction_at p f.point.line))
      (by_found (instruction_at p f.point.line) refl)
    where
      exact_globals : number_of (listed p.globals (bit_of g)) ≡ g
      exact_globals = ap (λ (t : HeldState). t.globals) e

      exact_frames : held_frame (frame_of p f) ∷ map held_frame (map (frame_of p) below) ≡ f ∷ below
      exact_frames = ap (λ (t : HeldState). t.frames) e

      exact_first : held_frame (frame_of p f) ≡ f
      exact_first = let both = exact_frames in cc

      exact_below : map held_frame (map (frame_of p) below) ≡ below
      exact_below = let both = exact_frames in cc

      by_found : (o : Option Instruction) → instruction_at p f.point.line ≡ o
          → option_map held (top_acted p (listed p.globals (bit_of g)) (frame_of p f) (map (frame_of p) below) target free o)
          ≡ held_top_acted p (record { globals = g; frames = f ∷ below }) f.locals target free o
      by_found None at = refl
      by_found (Some i) at =
          acts_same p g exact_globals f below (ap (λ (h : HeldFrame). h.locals) exact_first) exact_frames exact_below target free i i.statement refl
          ∙ ap (λ w. held_acted p i i.statement (record { globals = g; frames = f ∷ below }) f.locals (listed p.globals (bit_of g) ++ listed w (bit_of f.locals)) target free) (width_there p f.point.line i at)

  pub step_same : (s : HeldState) → held (state_of p s) ≡ s → option_map held (step_of p (state_of p s) target free) ≡ held_step p s target free
  step_same s e = step_by s.globals s.frames e

-- ---- what a step answers

lift : (x : Option State) (y : Option HeldState) (old new : HeldState) (moved : Bool) → option_map held x ≡ y
    → IsOutcome y old moved new → MatchOption x ((moved ≡ false) × (new ≡ old)) (λ t. (moved ≡ true) × (new ≡ held t))
lift None None old new moved e h = h
lift None (Some u) old new moved e h = cc
lift (Some t) None old new moved e h = cc
lift (Some t) (Some u) old new moved e h = (h.0, h.1 ∙ sym (same_Some (held t) u e))

pub stepped : (p : Program) (target bits : ℕ) (old new : HeldState) (moved : Bool) → IsHeld p old
    → IsOutcome (held_step p old target (bit_of bits)) old moved new → IsStepped p target bits old moved new
stepped p target bits old new moved is h =
    lift (step_of p (state_of p old) target (bit_of bits)) (held_step p old target (bit_of bits)) old new moved (step_same p target (bit_of bits) old is.exact) h

-- a step leads from states of the program to states
pub stays : (p : Program) (target bits : ℕ) (old new : HeldState) (moved : Bool)
    → ((t : State) → step_of p (state_of p old) target (bit_of bits) ≡ Some t → IsState p t)
    → IsHeld p old → IsStepped p target bits old moved new → IsHeld p new
stays p target bits old new moved keeps is h = by_step (step_of p (state_of p old) target (bit_of bits)) refl h
  where
    by_step : (o : Option State) → step_of p (state_of p old) target (bit_of bits) ≡ o
        → MatchOption o ((moved ≡ false) × (new ≡ old)) (λ t. (moved ≡ true) × (new ≡ held t)) → IsHeld p new
    by_step None e m = subst (λ (t : HeldState). IsHeld p t) (sym m.1) is
    by_step (Some t) e m = subst (λ (u : HeldState). IsHeld p u) (sym m.1) (state_held p t (keeps t e))
