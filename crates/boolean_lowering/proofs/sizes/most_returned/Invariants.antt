use Rattle.std.proofs.Common.{◌≡◌, max, drop, map}
use Rattle.boolean_programs.specs.Programs.{Procedure, procedure_of}
use Rattle.boolean_programs.specs.Structure.{largest}
use Rattle.boolean_lowering.proofs.sizes.most_returned.Given as goal

abbrev pub invariant-loop-owner : goal.invariant-loop-owner
invariant-loop-owner l = largest (map (λ (q : Procedure). q.returns) (map procedure_of l.procs)) ≡ max l.most (largest (map (λ (q : Procedure). q.returns) (map procedure_of (drop l.owner-index l.procs))))
