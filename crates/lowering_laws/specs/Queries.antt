-- What a query of a program asks of its lowering, and the states that a run of the lowering stands for.
use Rattle.std.specs.List.{range_with_len}
use Rattle.std.specs.Prelude.{◌≡◌, ℕ, true, false, List, [], ◌∷◌, map, None, Some}
use Rattle.pushdown_rules.specs.Configuration.{Configuration}
use Rattle.pushdown_rules.specs.Pushdown.{Pushdown}
use Rattle.pushdown_rules.specs.Firing.{next_of}
use Rattle.config_patterns.specs.Membership.{PatternValue}
use Rattle.boolean_programs.specs.Programs.{Program}
use Rattle.boolean_programs.specs.Lines.{instruction_at, first_line}
use Rattle.boolean_programs.specs.declared.point.Point.{Point}
use Rattle.boolean_machine.specs.Machine.{at_line, Frame, State}
use Rattle.lowering_laws.specs.Lowering.{symbol, symbols, callee_at}

-- main's first body line
abbrev pub entry_point : Program → Point
entry_point p = at_line (first_line (callee_at p p.main).body)

-- `p:` with main's first line
abbrev pub entry_pattern : Program → PatternValue
entry_pattern p = record { control = 0; symbols = symbols p; items = record { set = symbol p (entry_point p) ∷ []; star = false } ∷ [] }

-- `p:` with a point and then `.*`
abbrev pub point_pattern : Program → Point → PatternValue
point_pattern p point = record {
  control = 0;
  symbols = symbols p;
  items = record { set = symbol p point ∷ []; star = false } ∷ record { set = range_with_len 0 (symbols p); star = true } ∷ [];
}

-- ---- the states of a run

-- the symbol of a frame that waits: that of the line below its call
abbrev pub waiting_symbol : Program → Frame → ℕ
waiting_symbol p f = elim (instruction_at p f.point.line) [ None ↦ 0 | Some i ↦ symbol p (at_line i.next) ]

-- the stack of the configuration that a state stands for
abbrev pub stack_of : Program → State → List ℕ
stack_of p s = elim s.frames [ [] ↦ [] | f ∷ fs ↦ symbol p f.point ∷ map (waiting_symbol p) fs ]

-- one state for each configuration of a run from c, at the points of its stack
abbrev pub IsTrace : {S W Map : Type 0} → Program → Pushdown S W Map → Configuration → List ℕ → List State → Type 0
IsTrace p system c [] states = (s : State) × (states ≡ s ∷ []) × (stack_of p s ≡ c.stack)
IsTrace p system c (k ∷ run) states =
    (s : State) × (later : List State) × (states ≡ s ∷ later) × (stack_of p s ≡ c.stack) × (mid : Configuration) × (next_of system k c ≡ Some mid) × IsTrace p system mid run later
