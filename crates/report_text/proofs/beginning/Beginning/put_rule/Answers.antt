use Rattle.std.proofs.Common.{refl, ap, arith}
use Rattle.witness_graph.specs.Runs.{rule_runs}
use Rattle.report_text.proofs.OpeningLemmas.{put_nothing}
use Rattle.report_text.proofs.beginning.Beginning.put_rule.Goals as goal

pub returns-in_default-clause-parts : goal.returns-in_default-clause-parts
returns-in_default-clause-parts c = λ known n.
    let parts = c.args.self.now.parts.items in
    put_nothing n known (rule_runs c.args.rule) 2 parts parts (ap rule_runs c.in_default.is) (omega arith) refl
