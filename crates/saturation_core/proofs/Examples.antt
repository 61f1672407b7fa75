-- Hands on which the definitions are worked out.
use Rattle.std.proofs.Common.{◌≡◌, ℕ, List, [], refl}
use Rattle.std.specs.Prelude.{Option, None, Some, replicate, slice_set}
use Rattle.weighted_automata.specs.declared.place.Place.{Place}
use Rattle.weighted_automata.specs.declared.place.Label.TheVariants.{Symbol}
use Rattle.saturation_laws.specs.declared.holding.Holding.{Holding}
use Rattle.saturation_core.specs.Seats.{hands_out, seat_bits}

abbrev arrow : ℕ → ℕ → Place
arrow from to = record { from = from; label = Symbol 0; to = to }

abbrev two_out : List (Option (Holding ℕ ℕ ℕ))
two_out = slice_set (slice_set (replicate 64 None) 1 (Some (record { place = arrow 0 1; jobs = [] }))) 63 (Some (record { place = arrow 1 2; jobs = [] }))

pub two_are_out : hands_out two_out ≡ 2
two_are_out = refl

pub their_bits : seat_bits two_out ≡ 9223372036854775810
their_bits = refl
