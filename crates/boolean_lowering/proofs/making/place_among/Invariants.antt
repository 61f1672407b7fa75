use Rattle.std.proofs.Common.{◌≡◌, ℕ, ◌+◌, drop, map}
use Rattle.std.specs.Prelude.{option_map}
use Rattle.boolean_programs.specs.Lists.{place_in}
use Rattle.boolean_lowering.specs.private.Layouts.{slot_in}
use Rattle.boolean_lowering.proofs.making.place_among.Given as goal

abbrev pub invariant-loop-place : goal.invariant-loop-place
invariant-loop-place l = place_in (map (slot_in l.layout) l.targets) l.variable ≡ option_map (λ (k : ℕ). l.place + k) (place_in (map (slot_in l.layout) (drop l.place l.targets)) l.variable)
