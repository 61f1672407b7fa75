use Rattle.std.proofs.Common.{◌≡◌, map, take}
use Rattle.std.specs.Prelude.{All}
use Rattle.pattern_openings.specs.PatternOpenings.{IsOver}
use Rattle.lowering_laws.specs.Queries.{point_pattern}
use Rattle.program_reports.specs.private.Asked.{program_in}
use Rattle.program_reports.proofs.values.ends_of.Given as goal

abbrev pub invariant-loop-point : goal.invariant-loop-point
invariant-loop-point l =
    let system = l.asked.lowering.system in
    (l.ends.items ≡ map (point_pattern (program_in l.asked)) (take l.point-index l.points)) × All (IsOver system.controls system.symbols) l.ends.items
