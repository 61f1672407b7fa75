-- What has a place once another goes last.
use Rattle.std.proofs.Common.{◌≡◌, false, List, [], ◌∷◌, ◌++◌}
use Rattle.std.specs.Prelude.{◌||◌}
use Rattle.std.proofs.lemmas.List.Folds.{list_any-append}
use Rattle.weighted_automata.specs.declared.place.Place.{Place}
use Rattle.weighted_automata.specs.Places.{same_place, has_place}

pub one_more : (y x : Place) (q : List Place) → has_place y (q ++ x ∷ []) ≡ (has_place y q || (same_place x y || false))
one_more y x q = list_any-append (λ z. same_place z y) q (x ∷ [])
