use Rattle.std.proofs.Common.{◌<◌, length, refl, ap, subst, ◌∙◌, arith}
use Rattle.std.specs.Prelude.{IfSome}
use Rattle.witness_graph.specs.Runs.{part_runs}
use Rattle.report_text.specs.private.Opening.{part_steps}
use Rattle.report_text.proofs.OpeningLemmas.{node_steps_some, put_nothing}
use Rattle.report_text.proofs.beginning.Beginning.put_node.Goals as goal

pub returns-else-not-is_empty_run-clause-parts : goal.returns-else-not-is_empty_run-clause-parts
returns-else-not-is_empty_run-clause-parts c = λ known counted.
    let k = c.in-Some.number in
    let parts = c.args.self.now.parts.items in
    let n = length c.args.totals.now in
    let within : k < n = subst (λ o. IfSome o (λ j. j < n)) c.in-Some.is c.requires in
    let steps = ap part_steps c.in-Some.is in
    put_nothing n known (part_runs known c.args.part) (part_steps c.args.part) parts parts
    (ap (part_runs known) c.in-Some.is ∙ (c.is_empty_run.ensures (known k) (counted k within)).0 c.if-not-is_empty_run.false)
    (omega (arith, steps, node_steps_some k)) refl

pub returns-in_default-clause-parts : goal.returns-in_default-clause-parts
returns-in_default-clause-parts c = λ known counted.
    let parts = c.args.self.now.parts.items in
    let steps = ap part_steps c.in_default.is in
    put_nothing (length c.args.totals.now) known (part_runs known c.args.part) (part_steps c.args.part) parts parts
    (ap (part_runs known) c.in_default.is) (omega (arith, steps)) refl
