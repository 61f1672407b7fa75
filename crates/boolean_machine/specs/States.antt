-- The states of a program.
use Rattle.std.specs.Prelude.{◌≡◌, ℕ, false, List, [], ◌∷◌, length, Some, slice_get}
use Rattle.boolean_programs.specs.declared.statement.Choice.{Choice}
use Rattle.boolean_programs.specs.Programs.{Procedure, Program, width}
use Rattle.boolean_programs.specs.declared.statement.Statement.TheVariants.{Call}
use Rattle.boolean_programs.specs.Lines.{Instruction, instruction_at}
use Rattle.boolean_machine.specs.Machine.{Frame, State}
use Rattle.boolean_machine.specs.Lawful.{IsPointOf}

-- A frame that waits at a call of a procedure.
pub record WaitsAt (p : Program) (callee : ℕ) (f : Frame) (procedure : ℕ) : Type 0 where
  pub call : Instruction
  pub targets : List ℕ
  pub arguments : List Choice
  pub whole : f.point.failed ≡ false
  pub there : instruction_at p f.point.line ≡ Some call
  pub statement : call.statement ≡ Call targets callee arguments
  pub within : call.procedure ≡ procedure
  pub owner : Procedure
  pub found : slice_get p.procs procedure ≡ Some owner
  pub wide : length f.locals ≡ width owner

-- each frame stands at a call of the procedure of the frame above it
abbrev pub AreWaiting : Program → ℕ → List Frame → Type 0
AreWaiting p callee [] = Unit {0}
AreWaiting p callee (f ∷ fs) = (procedure : ℕ) × WaitsAt p callee f procedure × AreWaiting p procedure fs

pub record StandsAt (p : Program) (f : Frame) (procedure : ℕ) : Type 0 where
  pub point : IsPointOf p procedure f.point
  pub owner : Procedure
  pub found : slice_get p.procs procedure ≡ Some owner
  pub wide : length f.locals ≡ width owner

abbrev pub AreFrames : Program → List Frame → Type 0
AreFrames p [] = Unit {0}
AreFrames p (f ∷ fs) = (procedure : ℕ) × StandsAt p f procedure × AreWaiting p procedure fs

pub record IsState (p : Program) (s : State) : Type 0 where
  pub globals : length s.globals ≡ p.globals
  pub frames : AreFrames p s.frames
