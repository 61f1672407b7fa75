use Rattle.std.proofs.Common.{ℕ, ◌<◌}
use Rattle.std.specs.Prelude.{Option, Some, slice_get}
use Rattle.std.specs.Prelude.{◌≡◌}
use Rattle.weighted_automata.specs.declared.transitions.Entry.{Entry}
use Rattle.saturation_laws.specs.declared.job.Job.{Job}
use Rattle.saturation_core.specs.Goals.{StillTells}
use Rattle.saturation_core.proofs.goals.still_tell.Given as goal

abbrev pub invariant-loop-i : goal.invariant-loop-i
invariant-loop-i g l = (k : ℕ) (j : Job _ _ _) (seen : Option (Entry _ _ _)) → k < l.i → slice_get l.jobs k ≡ Some j → slice_get l.goals k ≡ Some seen
    → StillTells l.transitions.transitions j.goal seen
