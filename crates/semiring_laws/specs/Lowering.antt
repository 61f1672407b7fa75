-- A weight that comes to one that is there.
use Rattle.std.specs.Prelude.{Option, None, Some, if◌then◌else◌}
use Rattle.semiring_laws.specs.Semiring.{Operations}

-- what a weight makes of the one that is there, where it changes it
abbrev pub lowered_weight : {W Map : Type 0} → Operations W Map → W → W → Option W
lowered_weight s old weight = if s.same (s.combine old weight) old then None else Some (s.combine old weight)
