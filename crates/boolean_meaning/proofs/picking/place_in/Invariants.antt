use Rattle.std.proofs.Common.{◌≡◌, ◌+◌, drop}
use Rattle.std.specs.Prelude.{option_map}
use Rattle.boolean_programs.specs.Lists.{place_in}
use Rattle.boolean_meaning.proofs.picking.place_in.Given as goal

abbrev pub invariant-loop-place : goal.invariant-loop-place
invariant-loop-place l = place_in l.targets l.name ≡ option_map (λ j. l.place + j) (place_in (drop l.place l.targets) l.name)
