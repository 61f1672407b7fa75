-- The order in which refusals count.
use Rattle.std.specs.Prelude.{Bool, List, [], ◌∷◌, Option, None, Some, if◌then◌else◌}

-- the first fault whose test holds
abbrev pub first_fault : {Fault : Type 0} → List (Bool × Fault) → Option Fault
first_fault [] = None
first_fault (c ∷ cs) = if c.0 then Some c.1 else first_fault cs
