use Rattle.std.proofs.Common.{ℕ, subst}
use Rattle.std.specs.Prelude.{IfOk}
use Rattle.relation_laws.specs.Building.{Parts}
use Rattle.relation_weights.specs.declared.rel_map.RelMap.{RelMap}
use Rattle.relation_weights.specs.Relations.{relation_operations}
use Rattle.query_answers.specs.Answering.{AreValues}
use Rattle.query_answers.specs.Values.{ValuesOf}
use Rattle.program_reports.proofs.values.found_values.Goals as goal

pub returns : goal.returns
returns g c =
    subst (λ (v : ValuesOf ℕ Parts RelMap). IfOk c.values_from.result (λ vs. AreValues relation_operations v.system v.side v.workers c.args.from.now c.args.tos.now vs.items))
    c.new-values.ensures c.values_from.ensures.values
