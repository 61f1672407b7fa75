-- Relations between variables as weights: what the weights of a document are worth over n variables, and how values are
-- written.
use Rattle.std.specs.Prelude.{◌≡◌, ℕ, ◌*◌, ◌/◌, ◌%◌, nat_eq, List, [], ◌∷◌, ◌++◌, fold, length, map, Option, None, Some, codes, decimal, if◌then◌else◌}
use Rattle.std.specs.List.{join_with_byte, range_with_len}
use Rattle.wpds_base.specs.Limits.{most_related}
use Rattle.truth_tables.specs.Formulas.{Formula}
use Rattle.diagram_store.specs.declared.branch.Branch.{Branch}
use Rattle.diagram_store.specs.Nodes.{HasVariablesBelow}
use Rattle.diagram_store.specs.Canonical.{IsCanonical}
use Rattle.diagram_ops.specs.Quantifying.{is_listed}
use Rattle.relation_laws.specs.Building.{Parts}
use Rattle.relation_laws.specs.Relations.{Pairs, relation_of}
use Rattle.relation_weights.specs.declared.rel_map.Slot.{Slot}
use Rattle.relation_weights.specs.declared.rel_map.Slot.TheVariants.{Caller, Callee}
use Rattle.relation_weights.specs.declared.rel_map.RelMap.{RelMap}
use Rattle.relation_weights.specs.declared.rel_map.RelMap.TheVariants.{Slots}
use Rattle.relation_weights.specs.Actions.{assumed, assigned, frame_pairs}
use Rattle.relation_weights.specs.Relations.{relation_operations}
use Rattle.document_forms.specs.declared.weight.ValueText.{ValueText}
use Rattle.document_forms.specs.declared.weight.ValueText.TheVariants.{Free, Is}
use Rattle.document_forms.specs.declared.weight.Assignment.{Assignment}
use Rattle.document_forms.specs.declared.weight.Action.{Action}
use Rattle.document_forms.specs.declared.weight.Action.TheVariants.{Assume, Choose, Assign}
use Rattle.document_forms.specs.declared.weight.WeightText.{WeightText}
use Rattle.document_forms.specs.declared.weight.WeightText.TheVariants.{Zero, Actions}
use Rattle.document_forms.specs.declared.weight.WeightsLine.TheVariants.{Relation}
use Rattle.document_forms.specs.declared.document.Move.{Move}
use Rattle.document_forms.specs.declared.document.MapText.{MapText}
use Rattle.document_forms.specs.Names.{name}
use Rattle.document_forms.specs.Lawful.{AreNames, IsWeightText, IsPushMap}
use Rattle.document_systems.specs.Kinds.{Kind}
use Rattle.document_systems.specs.ValueTexts.{or_one}

-- ---- weights

-- what a target becomes: the value of a formula, or either bit
abbrev pub value_of : ValueText → Option (Formula ℕ)
value_of Free = None
value_of (Is f) = Some f

abbrev pub target_of : Assignment → ℕ × Option (Formula ℕ)
target_of a = (a.variable, value_of a.value)

-- the pairs of an old and a new state that an action allows
abbrev pub allowed : ℕ → Action → Pairs
allowed n (Assume f) = assumed n f
allowed n (Choose vs) = frame_pairs n vs
allowed n (Assign ts) = assigned n (map target_of ts)

-- a relation, and then an action
abbrev pub and_then : ℕ → Parts → Action → Parts
and_then n w a = (relation_operations n).extend w (relation_of n (allowed n a))

-- a rule does its actions in order
abbrev pub relation_weight : ℕ → WeightText → Parts
relation_weight n Zero = (relation_operations n).zero
relation_weight n (Actions acts) = fold (and_then n) (relation_operations n).one acts
relation_weight n _ = (relation_operations n).one

-- ---- return maps

-- the callee's variable that is moved to a variable, or that variable itself
abbrev pub moved_from : List Move → ℕ → ℕ
moved_from [] v = v
moved_from (m ∷ ms) v = if nat_eq m.to v then m.from else moved_from ms v

-- a variable that is restored comes from the caller, and each other one from the callee
abbrev pub slot_of : MapText → ℕ → Slot
slot_of m v = if is_listed m.restore v then Caller else Callee (moved_from m.moves v)

abbrev pub relation_map : MapText → RelMap
relation_map m = Slots (map (slot_of m) (range_with_len 0 most_related))

-- a return map of some rule over n variables
abbrev pub IsRelationMap : ℕ → MapText → Type 0
IsRelationMap n m = (right : List ℕ) × IsPushMap Relation n right m

-- ---- texts

-- a variable of a diagram: 2 i is the old value of variable i, and 2 i + 1 the new one
abbrev pub label : List (List ℕ) → ℕ → List ℕ
label names v = name names (v / 2) ++ (if nat_eq (v % 2) 1 then codes "'" else [])

-- ` VAR LOW HIGH`
abbrev pub node_text : List (List ℕ) → Branch → List ℕ
node_text names b = codes " " ++ label names b.var ++ codes " " ++ decimal b.low ++ codes " " ++ decimal b.high

-- the nodes in order with `;` between, or `true` where there are none
abbrev pub diagram_text : List (List ℕ) → List Branch → List ℕ
diagram_text names nodes = codes "relation" ++ join_with_byte 59 (or_one (codes " true") (map (node_text names) nodes))

abbrev pub relation_text : List (List ℕ) → Parts → List ℕ
relation_text names w = if nat_eq w.root 0 then codes "unreachable" else diagram_text names w.nodes

-- What a value's text tells: each variable has a name. A diagram fits exactly where it is canonical, over the variables'
-- bits.
pub record IsToldByRelation (n : ℕ) (variables : List (List ℕ)) (w : Parts) : Type 0 where
  pub canonical : IsCanonical w.root w.nodes
  pub below : HasVariablesBelow (2 * n) w.nodes
  pub names : AreNames most_related variables
  pub all_named : length variables ≡ n

abbrev pub relation_kind : Kind ℕ Parts RelMap
relation_kind = record {
  operations = relation_operations;
  named = λ _. Unit {0};
  takes = IsWeightText Relation;
  takes_map = IsRelationMap;
  weight = relation_weight;
  map = λ _. relation_map;
  written = λ _. relation_text;
  told = IsToldByRelation;
}
