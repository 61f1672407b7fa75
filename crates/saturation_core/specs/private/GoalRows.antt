-- Where the lowerings of a plan stand, by their goals.
use Rattle.std.specs.Prelude.{List, map, Some}
use Rattle.key_rows.specs.declared.rows.KeyRows.{KeyRows}
use Rattle.key_rows.specs.Rows.{AreRows}
use Rattle.weighted_automata.specs.contracts.place.PlaceOrd.TheImpl.{ghosts as of_places}
use Rattle.weighted_automata.specs.declared.place.Place.{Place}
use Rattle.saturation_core.specs.declared.plan.Planned.{Planned}

-- the rows are those of the goals
abbrev pub AreGoals : {S W Map : Type 0} → List (Planned S W Map) → KeyRows Place → Type 0
AreGoals ls rows = AreRows of_places.cmp (map (λ l. Some l.goal) ls) rows
