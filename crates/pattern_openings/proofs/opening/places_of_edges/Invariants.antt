use Rattle.std.proofs.Common.{◌≡◌, map, take}
use Rattle.pattern_openings.specs.PatternOpenings.{place_of_edge}
use Rattle.pattern_openings.proofs.opening.places_of_edges.Given as goal

abbrev pub invariant-loop-edge : goal.invariant-loop-edge
invariant-loop-edge l = l.places.items ≡ map (place_of_edge l.controls l.control) (take l.edge-index l.edges)
