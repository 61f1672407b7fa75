use Rattle.std.proofs.Common.{subst}
use Rattle.std.specs.Prelude.{Option, IfSome}
use Rattle.relation_laws.specs.Building.{Parts}
use Rattle.relation_weights.specs.declared.rel_map.RelMap.{RelMap}
use Rattle.boolean_programs.specs.declared.point.Point.{Point}
use Rattle.query_answers.specs.declared.saturation.Saturation.{Saturation}
use Rattle.program_reports.specs.private.Asked.{Serves}
use Rattle.std.proofs.Common.{ℕ}
use Rattle.program_reports.proofs.report.lines_of.Goals as goal

pub lines_over-requires-clause-serves : goal.lines_over-requires-clause-serves
lines_over-requires-clause-serves g c =
    let a = c.args.asked.now in
    let all = subst (λ (o : Option (Saturation ℕ Parts RelMap)). IfSome o (λ s. (point : Point) → Serves a point s)) c.in-Some.is c.requires.serves in
    all c.args.point
