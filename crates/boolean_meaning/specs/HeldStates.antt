-- Which state of the machine is held, where numbers hold the bits of names.
use Rattle.std.specs.Prelude.{◌≡◌, ℕ, map, None, Some, option_map, unwrap_or, slice_get}
use Rattle.boolean_programs.specs.Programs.{Program, width}
use Rattle.boolean_programs.specs.Lines.{instruction_at}
use Rattle.boolean_machine.specs.Machine.{Frame, State}
use Rattle.boolean_machine.specs.Picks.{listed}
use Rattle.boolean_machine.specs.States.{IsState}
use Rattle.boolean_meaning.specs.declared.state.Frame.{Frame as HeldFrame}
use Rattle.boolean_meaning.specs.declared.state.State.{State as HeldState}
use Rattle.boolean_meaning.specs.Bits.{bit_of, number_of}

-- how many names a procedure has, by its place
abbrev pub width_of : Program → ℕ → ℕ
width_of p k = unwrap_or (option_map width (slice_get p.procs k)) 0

-- how many names the procedure of a line has
abbrev pub width_at : Program → ℕ → ℕ
width_at p n = elim (instruction_at p n) [ None ↦ 0 | Some i ↦ width_of p i.procedure ]

-- ---- the state that is held, by the lowest bits

abbrev pub frame_of : Program → HeldFrame → Frame
frame_of p f = record { point = f.point; locals = listed (width_at p f.point.line) (bit_of f.locals) }

abbrev pub state_of : Program → HeldState → State
state_of p s = record { globals = listed p.globals (bit_of s.globals); frames = map (frame_of p) s.frames }

-- ---- how a state is held, all further bits being 0

abbrev pub held_frame : Frame → HeldFrame
held_frame f = record { point = f.point; locals = number_of f.locals }

abbrev pub held : State → HeldState
held s = record { globals = number_of s.globals; frames = map held_frame s.frames }

-- a state of the program is held
pub record IsHeld (p : Program) (s : HeldState) : Type 0 where
  pub is : IsState p (state_of p s)
  pub exact : held (state_of p s) ≡ s
