-- What the weights of a document are worth, and how values are written: a kind for each semiring.
use Rattle.std.specs.Prelude.{ℕ, ◌<◌, ◌≤◌, Bool, true, false, nat_eq, min, List, ◌++◌, Option, None, Some, codes, decimal, if◌then◌else◌}
use Rattle.wpds_base.specs.Limits.{most_cost}
use Rattle.semiring_laws.specs.Semiring.{Fits}
use Rattle.semiring_laws.specs.Reach.{reach_operations}
use Rattle.semiring_laws.specs.declared.reach.Reach.{Reach}
use Rattle.semiring_laws.specs.declared.reach.NoMap.{NoMap}
use Rattle.semiring_laws.specs.declared.reach.NoMap.TheVariants.{Plain}
use Rattle.cost_weights.specs.Cost.{cost_operations}
use Rattle.document_forms.specs.declared.weight.WeightText.{WeightText}
use Rattle.document_forms.specs.declared.weight.WeightText.TheVariants.{Zero, Number}
use Rattle.document_systems.specs.Kinds.{Kind}

-- with reachability a rule leads on, unless its weight is `none`
abbrev pub reach_weight : WeightText → Bool
reach_weight Zero = false
reach_weight _ = true

abbrev pub reach_text : Bool → List ℕ
reach_text true = codes "reachable"
reach_text false = codes "unreachable"

abbrev pub reach_kind : Kind Reach Bool NoMap
reach_kind = record {
  operations = λ _. reach_operations;
  named = λ _. Unit {0};
  takes = λ _ _. Unit {0};
  takes_map = λ _ _. Unit {0};
  weight = λ _. reach_weight;
  map = λ _ _. Plain;
  written = λ _ _. reach_text;
  told = λ _ _. Fits reach_operations;
}

-- with costs a rule without weight costs nothing, and a number over the cap is the cap
abbrev pub cost_weight : ℕ → WeightText → Option ℕ
cost_weight cap Zero = None
cost_weight cap (Number n) = Some (min n cap)
cost_weight cap _ = Some 0

-- the caps that a document can name
abbrev pub IsCap : ℕ → Type 0
IsCap cap = (0 < cap) × (cap ≤ most_cost)

abbrev pub cost_text : ℕ → Option ℕ → List ℕ
cost_text cap None = codes "unreachable"
cost_text cap (Some n) = decimal n ++ (if nat_eq n cap then codes " or more" else codes "")

abbrev pub cost_kind : Kind ℕ (Option ℕ) NoMap
cost_kind = record {
  operations = cost_operations;
  named = IsCap;
  takes = λ _ _. Unit {0};
  takes_map = λ _ _. Unit {0};
  weight = cost_weight;
  map = λ _ _. Plain;
  written = λ cap _. cost_text cap;
  told = λ cap _. Fits (cost_operations cap);
}
