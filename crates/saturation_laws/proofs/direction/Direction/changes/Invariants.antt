use Rattle.std.proofs.Common.{◌≡◌, ◌++◌, map, take}
use Rattle.saturation_laws.specs.States.{change_of}
use Rattle.saturation_laws.proofs.direction.Direction.changes.Given as goal

abbrev pub invariant-loop-job : goal.invariant-loop-job
invariant-loop-job g l =
    let f = change_of (g.S.Semiring.operations l.system.semiring) (g.Self.Direction.way.tables l.self l.system) in
    l.into.items ≡ l.initial.into.items ++ map f (take l.job-index l.job-items)
