-- Where the weights of a search stand: a row and a source are a place. A row is a configuration with at most one symbol, and its place leads from its control, by its symbol or by
-- nothing, to the number of its source.
use Rattle.std.specs.Prelude.{◌≡◌, ℕ, ◌+◌, List, [], ◌∷◌, nat_le, Option, None, Some, option_map, if◌then◌else◌}
use Rattle.key_rows.specs.Rows.{index_where}
use Rattle.weighted_automata.specs.declared.place.Label.{Label}
use Rattle.weighted_automata.specs.declared.place.Label.TheVariants.{Symbol, Empty}
use Rattle.weighted_automata.specs.declared.place.Place.{Place}
use Rattle.pushdown_rules.specs.Configuration.{Configuration}
use Rattle.pushdown_rules.specs.Pushdown.{Pushdown}
use Rattle.pushdown_rules.specs.Rows.{goes_onto}
use Rattle.forward_value_laws.specs.Model.{Source, item, callee}

abbrev pub arrow : ℕ → Label → ℕ → Place
arrow from label to = record { from = from; label = label; to = to }

-- what a row reads; none that has more than one symbol
abbrev pub label_of : List ℕ → Option Label
label_of [] = Some Empty
label_of (g ∷ []) = Some (Symbol g)
label_of (g ∷ h ∷ word) = None

-- the label of a right side of at most one symbol
abbrev pub short_label : List ℕ → Label
short_label [] = Empty
short_label (g ∷ word) = Symbol g

abbrev pub place_by : ℕ → Option Label → Option ℕ → Option Place
place_by control None n = None
place_by control (Some l) None = None
place_by control (Some l) (Some n) = Some (arrow control l n)

module _ {S W Map : Type 0} (items : ℕ) (p : Pushdown S W Map) where
  -- The number of a source: of an item its own, and of a callee that of the first rule that goes onto what it begins with, behind all items.
  abbrev pub number_of : Source → Option ℕ
  number_of (item i) = if nat_le i items then Some i else None
  number_of (callee to g) = option_map (λ k. items + 1 + k) (index_where (goes_onto to g) p.rules)

  abbrev pub place_of : Configuration → Source → Option Place
  place_of row from = place_by row.control (label_of row.stack) (number_of from)

  -- the row and the source are at the place
  abbrev pub IsAt : Place → Configuration → Source → Type 0
  IsAt x row from = place_of row from ≡ Some x

-- the weight of a row and a source, where each place has one; zero where they have no place
abbrev pub row_weights : {S W Map : Type 0} → W → ℕ → Pushdown S W Map → (Place → W) → Configuration → Source → W
row_weights zero items p weight row from = elim (place_of items p row from) [ None ↦ zero | Some x ↦ weight x ]
