-- The lowering of a Boolean program to a pushdown system with one control.
use Rattle.std.specs.Prelude.{◌≡◌, ◌↔◌, ℕ, suc, ◌+◌, ◌<◌, Bool, true, false, IsTrue, nat_lt, List, [], ◌∷◌, ◌++◌, map, replicate, length, Option, None, Some, slice_get, unwrap_or, option_map, if◌then◌else◌}
use Rattle.std.specs.List.{filter, range_with_len}
use Rattle.truth_tables.specs.Formulas.{Formula, renamed}
use Rattle.pushdown_rules.specs.declared.rule.Rule.{Rule}
use Rattle.pushdown_rules.specs.Pushdown.{Pushdown}
use Rattle.boolean_programs.specs.declared.statement.Choice.{Choice}
use Rattle.boolean_programs.specs.declared.statement.Choice.TheVariants.{Star, Is}
use Rattle.boolean_programs.specs.Programs.{Procedure, Program, width}
use Rattle.boolean_programs.specs.Lines.{Instruction, code, line_numbers, first_line}
use Rattle.boolean_programs.specs.Lists.{place_in}
use Rattle.boolean_programs.specs.Structure.{largest, return_slots}
use Rattle.boolean_programs.specs.declared.point.Point.{Point}
use Rattle.boolean_machine.specs.Machine.{at_line, value_at, MayBecome, Action, Jumps, Sets, Calls, Returns, action}
use Rattle.boolean_machine.specs.Lawful.{is_assert}
use Rattle.setting_runs.specs.Relations.{Setting}
use Rattle.relation_weights.specs.declared.rel_map.Slot.{Slot}
use Rattle.relation_weights.specs.declared.rel_map.Slot.TheVariants.{Caller, Callee}
use Rattle.relation_laws.specs.States.{AgreeBelow}

-- ---- variables: the globals, then the return slots, then the local slots

-- as many local slots as the widest procedure needs
abbrev pub local_slots : Program → ℕ
local_slots p = largest (map width p.procs)

-- the first local slot
abbrev pub first_local : Program → ℕ
first_local p = p.globals + return_slots p

abbrev pub variables : Program → ℕ
variables p = first_local p + local_slots p

-- the variable of a name: a global's own number, and a local's slot
abbrev pub slot_of : Program → ℕ → ℕ
slot_of p k = if nat_lt k p.globals then k else k + return_slots p

-- with each name by its variable
abbrev pub renamed_choice : (ℕ → ℕ) → Choice → Choice
renamed_choice f Star = Star
renamed_choice f (Is e) = Is (renamed f e)

abbrev pub in_slots : Program → List Choice → List Choice
in_slots p values = map (renamed_choice (slot_of p)) values

-- ---- weights

-- A relation: a condition, under which all stays; or variables that are set to values, where all others stay.
pub data Effect : Type 0 where
  Assumes : Formula ℕ → Effect
  Assigns : (targets : List ℕ) → (values : List Choice) → Effect

-- the relation between settings of n variables
abbrev pub Means : ℕ → Effect → Setting → Setting → Type 0
Means n (Assumes e) x y = IsTrue (value_at x e) × AgreeBelow n y x
Means n (Assigns targets values) x y = (v : ℕ) → v < n → MayBecome targets values x x v (y v)

-- ---- symbols

-- the lines of the asserts, in order
abbrev pub assert_lines : Program → List ℕ
assert_lines p = line_numbers (filter (λ (i : Instruction). is_assert i.statement) (code p))

-- one symbol for each body line and, after these, one for each assert's failure
abbrev pub symbol_of : Program → Point → Option ℕ
symbol_of p point = elim point.failed [
  | false ↦ place_in (line_numbers (code p)) point.line
  | true ↦ option_map (λ k. length (code p) + k) (place_in (assert_lines p) point.line)
]

-- the symbol of a point of the program
abbrev pub symbol : Program → Point → ℕ
symbol p point = unwrap_or (symbol_of p point) 0

-- how many symbols there are
abbrev pub symbols : Program → ℕ
symbols p = length (code p) + length (assert_lines p)

-- the failure of the assert of a line
abbrev pub failure_at : ℕ → Point
failure_at n = record { line = n; failed = true }

-- the points of the symbols, in their order
abbrev pub symbol_points : Program → List Point
symbol_points p = map at_line (line_numbers (code p)) ++ map failure_at (assert_lines p)

-- ---- rules

-- what a call's map takes a variable from: a target from the return slot of its place, another global from the
-- callee, and all else from the caller
abbrev pub map_slot : Program → List ℕ → ℕ → Slot
map_slot p targets v = elim (place_in (map (slot_of p) targets) v) [
  | Some j ↦ Callee (p.globals + j)
  | None ↦ if nat_lt v p.globals then Callee v else Caller
]

-- A rule before its weight is made: the symbol of its head, and the map of a push.
pub record Planned : Type 0 where
  pub head : ℕ
  pub right : List ℕ
  pub effect : Effect
  pub map : Option (ℕ → Slot)

-- a step to a symbol
abbrev pub step_rule : ℕ → ℕ → Effect → Planned
step_rule k g effect = record { head = k; right = g ∷ []; effect = effect; map = None }

-- a step to a point, where its condition is true
abbrev pub jump_rule : Program → ℕ → Formula ℕ × Point → Planned
jump_rule p k way = step_rule k (symbol p way.1) (Assumes (renamed (slot_of p) way.0))

-- the procedure at a place
abbrev pub callee_at : Program → ℕ → Procedure
callee_at p f = unwrap_or (slice_get p.procs f) (record { params = 0; locals = 0; returns = 0; body = [] })

-- the values that a call gives the local slots of its callee
abbrev pub entry_values : Program → Procedure → List Choice → List Choice
entry_values p q arguments = in_slots p arguments ++ replicate q.locals Star

-- A push of the callee's first line over the line below the call. Its weight sets the parameters and frees the other
-- locals of the callee.
abbrev pub call_rule : Program → ℕ → Instruction → List ℕ → Procedure → List Choice → Planned
call_rule p k i targets q arguments = record {
  head = k;
  right = symbol p (at_line (first_line q.body)) ∷ symbol p (at_line i.next) ∷ [];
  effect = Assigns (range_with_len (first_local p) (width q)) (entry_values p q arguments);
  map = Some (map_slot p targets);
}

-- a pop that sets the return slots
abbrev pub return_rule : Program → ℕ → List Choice → Planned
return_rule p k values = record {
  head = k;
  right = [];
  effect = Assigns (range_with_len p.globals (length values)) (in_slots p values);
  map = None;
}

-- the rules of an action of the body line of number k
abbrev pub line_rules : Program → ℕ → Instruction → Action → List Planned
line_rules p k i (Jumps ways) = map (jump_rule p k) ways
line_rules p k i (Sets targets values) = step_rule k (symbol p (at_line i.next)) (Assigns (map (slot_of p) targets) (in_slots p values)) ∷ []
line_rules p k i (Calls targets callee arguments) = call_rule p k i targets (callee_at p callee) arguments ∷ []
line_rules p k i (Returns values) = return_rule p k values ∷ []

-- the rules of these body lines, of which the first has the number k
abbrev pub rules_from : Program → ℕ → List Instruction → List Planned
rules_from p k [] = []
rules_from p k (i ∷ is) = line_rules p k i (action p i) ++ rules_from p (suc k) is

-- all rules, by body lines
abbrev pub plan : Program → List Planned
plan p = rules_from p 0 (code p)

-- the slots of a map are those planned
abbrev pub IsMap : {Map : Type 0} → ℕ → (Map → ℕ → Slot) → Option Map → Option (ℕ → Slot) → Type 0
IsMap n slots None None = Unit {0}
IsMap n slots (Some h) (Some planned) = (v : ℕ) → v < n → slots h v ≡ planned v
IsMap n slots _ _ = ⊥

-- a rule as it was planned
pub record IsLowered {S W Map : Type 0} (n : ℕ) (relates : W → Setting → Setting → Bool) (slots : Map → ℕ → Slot) (r : Rule S W Map) (t : Planned) : Type 0 where
  pub control : r.control ≡ 0
  pub to : r.to ≡ 0
  pub symbol : r.symbol ≡ t.head
  pub right : r.right ≡ t.right
  pub weight : (x y : Setting) → IsTrue (relates r.weight x y) ↔ Means n t.effect x y
  pub map : IsMap n slots r.map t.map

-- The system is the lowering of the program, where weights mean relations between settings of its variables.
pub record IsLowering {S W Map : Type 0} (relates : W → Setting → Setting → Bool) (slots : Map → ℕ → Slot) (p : Program) (system : Pushdown S W Map) : Type 0 where
  pub controls : system.controls ≡ 1
  pub symbols_are : system.symbols ≡ symbols p
  pub count : length system.rules ≡ length (plan p)
  pub rules : (k : ℕ) (r : Rule S W Map) (t : Planned) → slice_get system.rules k ≡ Some r → slice_get (plan p) k ≡ Some t → IsLowered (variables p) relates slots r t
