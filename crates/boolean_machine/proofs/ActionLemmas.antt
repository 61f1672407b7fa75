-- Which lines call, and what is lawful of them.
use Rattle.std.proofs.Common.{◌≡◌, ℕ, ◌+◌, ◌<◌, List, [], length, sym, ap, ◌∙◌, subst, arith, ◌⊎◌, inl, inr}
use Rattle.std.specs.Prelude.{Option, None, Some, slice_get}
use Rattle.std.proofs.lemmas.Option.{same_Some, slice_get_within}
use Rattle.boolean_programs.specs.declared.statement.Choice.{Choice}
use Rattle.boolean_programs.specs.declared.statement.Choice.TheVariants.{Star, Is}
use Rattle.boolean_programs.specs.declared.statement.Statement.{Statement}
use Rattle.boolean_programs.specs.Programs.{Procedure, Program, width}
use Rattle.boolean_programs.specs.declared.statement.Statement.TheVariants.{Skip, Assign, Goto, Assume, Assert, Call, Return, If, Else, While, EndIf, EndWhile, EndProc}
use Rattle.boolean_programs.specs.declared.point.Point.{Point}
use Rattle.boolean_programs.specs.Lines.{Instruction, code, line_numbers, instruction_at}
use Rattle.boolean_programs.specs.Lists.{place_in, Each, StandOnce}
use Rattle.boolean_machine.specs.Machine.{at_line, Calls, on_choice, action_of, returns_of}
use Rattle.boolean_machine.specs.Lawful.{IsPointOf, FitsCallee, IsLawfulAction, IsLawfulLine, IsLawful}

-- ---- which line calls

choice_calls_not : (c : Choice) (a b : Point) (ts : List ℕ) (callee : ℕ) (vs : List Choice) → on_choice c a b ≡ Calls ts callee vs → ⊥
choice_calls_not Star a b ts callee vs e = cc
choice_calls_not (Is f) a b ts callee vs e = cc

-- the action that calls is a call's
pub calls_at_call : (n : ℕ) (i : Instruction) (s : Statement) (ts : List ℕ) (callee : ℕ) (vs : List Choice) → action_of n i s ≡ Calls ts callee vs → s ≡ Call ts callee vs
calls_at_call n i Skip ts callee vs e = cc
calls_at_call n i (Assign targets values) ts callee vs e = cc
calls_at_call n i (Goto lines) ts callee vs e = cc
calls_at_call n i (Assume f) ts callee vs e = cc
calls_at_call n i (Assert f) ts callee vs e = cc
calls_at_call n i (Call targets to arguments) ts callee vs e =
    let a : targets ≡ ts = cc in
    let b : to ≡ callee = cc in
    let c : arguments ≡ vs = cc in
    cc
calls_at_call n i (Return values) ts callee vs e = cc
calls_at_call n i (If c) ts callee vs e = absurd (choice_calls_not c _ _ ts callee vs e)
calls_at_call n i Else ts callee vs e = cc
calls_at_call n i (While c) ts callee vs e = absurd (choice_calls_not c _ _ ts callee vs e)
calls_at_call n i EndIf ts callee vs e = cc
calls_at_call n i EndWhile ts callee vs e = cc
calls_at_call n i EndProc ts callee vs e = cc

abbrev at_place : List Instruction → Option ℕ → Option Instruction
at_place is o = elim o [ None ↦ None | Some k ↦ slice_get is k ]

found_at : (is : List Instruction) (o : Option ℕ) (i : Instruction) → at_place is o ≡ Some i → (k : ℕ) × (slice_get is k ≡ Some i)
found_at is None i e = cc
found_at is (Some k) i e = (k, e)

module _ (p : Program) (lawful : IsLawful p) where
  -- the body line of a number is lawful
  pub line_at : (n : ℕ) (i : Instruction) → instruction_at p n ≡ Some i → IsLawfulLine p i
  line_at n i e = let place = found_at (code p) (place_in (line_numbers (code p)) n) i e in lawful.lines place.0 i place.1

  pub call_at : (n : ℕ) (call : Instruction) (ts : List ℕ) (callee : ℕ) (vs : List Choice) → instruction_at p n ≡ Some call → call.statement ≡ Call ts callee vs
      → FitsCallee p ts callee vs × IsPointOf p call.procedure (at_line call.next)
  call_at n call ts callee vs at statement =
      let line = line_at n call at in
      let acts : IsLawfulAction p call line.owner (p.globals + width line.owner) (Calls ts callee vs) =
      subst (IsLawfulAction p call line.owner (p.globals + width line.owner)) (ap (action_of (returns_of p call.procedure) call) statement) line.acts in
      (acts.0, acts.3)

-- the targets of a call are names of its procedure, and differ
pub record CallTargets (p : Program) (call : Instruction) (ts : List ℕ) : Type 0 where
  pub owner : Procedure
  pub found : slice_get p.procs call.procedure ≡ Some owner
  pub small : Each (λ t. t < p.globals + width owner) ts
  pub once : StandOnce ts

pub targets_at : (p : Program) → IsLawful p → (n : ℕ) (call : Instruction) (ts : List ℕ) (callee : ℕ) (vs : List Choice) → instruction_at p n ≡ Some call → call.statement ≡ Call ts callee vs → CallTargets p call ts
targets_at p lawful n call ts callee vs at statement =
    let line = line_at p lawful n call at in
    let acts : IsLawfulAction p call line.owner (p.globals + width line.owner) (Calls ts callee vs) =
    subst (IsLawfulAction p call line.owner (p.globals + width line.owner)) (ap (action_of (returns_of p call.procedure) call) statement) line.acts in
    record { owner = line.owner; found = line.found; small = acts.1; once = acts.4 }

-- a call has enough values for its targets
pub enough_values : (p : Program) (ts : List ℕ) (callee : ℕ) (arguments : List Choice) → FitsCallee p ts callee arguments → (owner : Procedure) → slice_get p.procs callee ≡ Some owner → (values : List Choice) → length values ≡ owner.returns
    → (j k : ℕ) → slice_get ts j ≡ Some k → j < length values
enough_values p ts callee arguments fits owner found values count j k e = by_form fits.targets_fit
  where
    nothing : (j k : ℕ) → slice_get [] j ≡ Some k → ⊥
    nothing j k h = cc

    by_form : ((ts ≡ []) ⊎ (length ts ≡ fits.procedure.returns)) → j < length values
    by_form (inl none) = absurd (nothing j k (subst (λ (xs : List ℕ). slice_get xs j ≡ Some k) none e))
    by_form (inr same) =
        let q : fits.procedure ≡ owner = same_Some fits.procedure owner (sym fits.found ∙ found) in
        let r : fits.procedure.returns ≡ owner.returns = ap (λ (x : Procedure). x.returns) q in
        let small : j < length ts = slice_get_within ts j k e in
        omega arith
