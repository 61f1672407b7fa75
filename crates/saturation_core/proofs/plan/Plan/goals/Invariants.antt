use Rattle.std.proofs.Common.{◌≡◌, ◌<◌, ℕ, true}
use Rattle.std.specs.Prelude.{Some}
use Rattle.key_rows.specs.Rows.{index_where}
use Rattle.weighted_automata.specs.declared.place.Place.{Place}
use Rattle.weighted_automata.specs.Places.{has_place}
use Rattle.saturation_core.proofs.GoalLemmas.{is_of}
use Rattle.saturation_core.proofs.plan.Plan.goals.Given as goal

abbrev pub invariant-loop-k : goal.invariant-loop-k
invariant-loop-k g l = (x : Place) (j : ℕ) → index_where (is_of x) l.self ≡ Some j → j < l.k → has_place x l.places.items ≡ true
