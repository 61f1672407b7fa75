use Rattle.std.proofs.Common.{◌≡◌, max, drop, map}
use Rattle.boolean_programs.specs.Programs.{procedure_of, width}
use Rattle.boolean_programs.specs.Structure.{largest}
use Rattle.boolean_lowering.proofs.sizes.most_names.Given as goal

abbrev pub invariant-loop-owner : goal.invariant-loop-owner
invariant-loop-owner l = largest (map width (map procedure_of l.procs)) ≡ max l.most (largest (map width (map procedure_of (drop l.owner-index l.procs))))
