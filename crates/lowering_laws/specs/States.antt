-- The state that a stack and settings stand for.
use Rattle.std.specs.Prelude.{ℕ, ◌+◌, ◌-◌, List, [], ◌∷◌, map, None, Some, slice_get, option_map, unwrap_or}
use Rattle.pushdown_rules.specs.Configuration.{Configuration}
use Rattle.pushdown_rules.specs.Pushdown.{Pushdown}
use Rattle.pushdown_rules.specs.Firing.{next_of}
use Rattle.pushdown_rules.specs.RunValue.{Frame as SavedFrame, Machine}
use Rattle.boolean_programs.specs.Programs.{Program, width}
use Rattle.boolean_programs.specs.Lines.{instruction_at}
use Rattle.boolean_programs.specs.declared.point.Point.{Point}
use Rattle.boolean_machine.specs.Machine.{at_line, Frame, State}
use Rattle.boolean_machine.specs.Picks.{listed}
use Rattle.setting_runs.specs.Relations.{Setting}
use Rattle.lowering_laws.specs.Lowering.{first_local, symbol_points}

-- how many names the procedure of a body line has
abbrev pub width_at : Program → ℕ → ℕ
width_at p n = elim (instruction_at p n) [ None ↦ 0 | Some i ↦ unwrap_or (option_map width (slice_get p.procs i.procedure)) 0 ]

-- a frame at a point, with its locals in the setting
abbrev pub frame_of : Program → Point → Setting → Frame
frame_of p point z = record { point = point; locals = listed (width_at p point.line) (λ j. z (first_local p + j)) }

-- the point of a symbol
abbrev pub point_at : Program → ℕ → Point
point_at p g = unwrap_or (slice_get (symbol_points p) g) (at_line 0)

-- the frames that wait: each at the line above that of its symbol, with its locals in the setting that was saved
abbrev pub waiting_of : Program → List ℕ → List Setting → List Frame
waiting_of p [] saved = []
waiting_of p (g ∷ stack) [] = []
waiting_of p (g ∷ stack) (y ∷ saved) = frame_of p (point_at p (g - 1)) y ∷ waiting_of p stack saved

-- the state of a stack, the settings at its open calls, and the present one
abbrev pub state_of : Program → List ℕ → List Setting → Setting → State
state_of p stack saved z = record {
  globals = listed p.globals z;
  frames = elim stack [ [] ↦ [] | g ∷ rest ↦ frame_of p (point_at p g) z ∷ waiting_of p rest saved ];
}

-- the state of a moment, on a stack
abbrev pub state_at : {Map : Type 0} → Program → List ℕ → Machine Setting Map → State
state_at {Map} p stack m = state_of p stack (map (λ (f : SavedFrame Setting Map). f.saved) m.frames) m.accumulator

-- the states of the moments of a run from c
abbrev pub states_along : {S W Map : Type 0} → Program → Pushdown S W Map → Configuration → List ℕ → Machine Setting Map → List (Machine Setting Map) → List State
states_along p system c [] m later = state_at p c.stack m ∷ []
states_along p system c (k ∷ run) m [] = []
states_along p system c (k ∷ run) m (m' ∷ later) = state_at p c.stack m ∷ elim (next_of system k c) [ None ↦ [] | Some mid ↦ states_along p system mid run m' later ]
