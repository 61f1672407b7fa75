-- What the line of a spot may rely on.
use Rattle.std.proofs.Common.{◌≡◌, ℕ, zero, suc, ◌+◌, List, length, replicate, refl, sym, ap, ◌∙◌, subst}
use Rattle.std.specs.Prelude.{Some, slice_get}
use Rattle.std.proofs.lemmas.Option.{same_Some}
use Rattle.boolean_programs.specs.declared.statement.Choice.{Choice}
use Rattle.boolean_programs.specs.declared.statement.Choice.TheVariants.{Star}
use Rattle.boolean_programs.specs.declared.statement.Statement.{Statement}
use Rattle.boolean_programs.specs.declared.statement.Statement.TheVariants.{Skip, Assign, Goto, Assume, Assert, Call, Return, If, Else, While, EndIf, EndWhile, EndProc}
use Rattle.boolean_programs.specs.Lists.{Each}
use Rattle.boolean_programs.specs.Programs.{Procedure, Program, width, procedure_of}
use Rattle.boolean_programs.specs.Structure.{FitsStatement, IsValueOver}
use Rattle.boolean_meaning.specs.declared.lines.Spot.{Spot}
use Rattle.boolean_meaning.specs.Bits.{bit_of}
use Rattle.boolean_meaning.specs.HeldStates.{width_of}
use Rattle.boolean_meaning.specs.private.Outcomes.{names_in, IsJumpOver, IsSpotOf}
use Rattle.boolean_meaning.proofs.ValueLemmas.{length_names}
use Rattle.boolean_meaning.proofs.StateLemmas.{width_owner}

copies_are : {X : Type 0} (n j : ℕ) (x y : X) → slice_get (replicate n x) j ≡ Some y → x ≡ y
copies_are zero j x y e = cc
copies_are (suc n) zero x y e = same_Some x y e
copies_are (suc n) (suc j) x y e = copies_are n j x y e

-- free values are over each number of names
pub free_over : (m n : ℕ) → Each (IsValueOver m) (replicate n Star)
free_over m n = λ j v e. subst (IsValueOver m) (copies_are n j Star v e) refl

fits_jump : (p : Program) (q : Procedure) (m : ℕ) (s : Statement) → FitsStatement p q m s → IsJumpOver m s
fits_jump p q m (Assume e) fits = fits
fits_jump p q m (Assert e) fits = fits
fits_jump p q m (If c) fits = fits
fits_jump p q m (While c) fits = fits
fits_jump p q m Skip fits = tt
fits_jump p q m (Assign targets values) fits = tt
fits_jump p q m (Goto lines) fits = tt
fits_jump p q m (Call targets callee arguments) fits = tt
fits_jump p q m (Return values) fits = tt
fits_jump p q m Else fits = tt
fits_jump p q m EndIf fits = tt
fits_jump p q m EndWhile fits = tt
fits_jump p q m EndProc fits = tt

module _ (p : Program) (n : ℕ) (spot : Spot) (is : IsSpotOf p n spot) (m : ℕ) (long : m ≡ p.globals + width (procedure_of spot.owner.now)) where
  abbrev owner : Procedure
  owner = procedure_of spot.owner.now

  fits : FitsStatement p owner m spot.line.now.statement
  fits =
      let own : FitsStatement p owner (p.globals + width owner) spot.line.now.statement =
      subst (λ (q : Procedure). FitsStatement p q (p.globals + width q) spot.line.now.statement) (same_Some is.fits.owner owner (sym is.fits.found ∙ is.owner)) is.fits.fits in
      subst (λ k. FitsStatement p owner k spot.line.now.statement) (sym long) own

  fits_as : (s : Statement) → spot.line.now.statement ≡ s → FitsStatement p owner m s
  fits_as s e = subst (FitsStatement p owner m) e fits

  pub assign_over : (ts : List ℕ) (vs ws : List Choice) → spot.line.now.statement ≡ Assign ts vs → ws ≡ vs → Each (IsValueOver m) ws
  assign_over ts vs ws e same = subst (Each (IsValueOver m)) (sym same) (fits_as (Assign ts vs) e).2

  pub call_over : (ts : List ℕ) (callee : ℕ) (vs : List Choice) → spot.line.now.statement ≡ Call ts callee vs → Each (IsValueOver m) vs
  call_over ts callee vs e = (fits_as (Call ts callee vs) e).5

  pub return_over : (vs ws : List Choice) → spot.line.now.statement ≡ Return vs → ws ≡ vs → Each (IsValueOver m) ws
  return_over vs ws e same = subst (Each (IsValueOver m)) (sym same) (fits_as (Return vs) e).1

  pub jump_over : IsJumpOver m spot.line.now.statement
  jump_over = fits_jump p owner m spot.line.now.statement fits

-- as many names as the globals and those of the procedure
pub names_long : (p : Program) (n : ℕ) (spot : Spot) → IsSpotOf p n spot → (g l : ℕ)
    → length (names_in p spot.procedure g l) ≡ p.globals + width (procedure_of spot.owner.now)
names_long p n spot is g l =
    length_names p.globals (width_of p spot.procedure) (bit_of g) (bit_of l)
    ∙ ap (λ w. p.globals + w) (width_owner p spot.procedure (procedure_of spot.owner.now) is.owner)
