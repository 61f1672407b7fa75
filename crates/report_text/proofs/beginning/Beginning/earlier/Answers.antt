use Rattle.std.proofs.Common.{List, length, subst, ◌∙◌}
use Rattle.witness_graph.specs.Runs.{part_runs}
use Rattle.report_text.specs.declared.beginning.Part.{Part}
use Rattle.report_text.specs.private.Opening.{part_steps, IsPut}
use Rattle.report_text.proofs.OpeningLemmas.{earlier_is}
use Rattle.report_text.proofs.beginning.Beginning.earlier.Goals as goal

pub returns-in_ok-put_node-in-Some : goal.returns-in_ok-put_node-in-Some
returns-in_ok-put_node-in-Some c = λ known counted.
    let n = length c.args.totals.now in
    let copied = c.in_ok-earlier-in-Some.ensures in
    let put = c.in_ok-put_node-in-Some.ensures in
    earlier_is n known c.args.before c.in-Some.field-0 c.args.self.now c.put_node.new.self c.in-Some.is c.requires.within (put.rules ∙ copied.rules)
    (subst (λ (old : List Part). IsPut n known (part_runs known c.args.before) (part_steps c.args.before) old c.put_node.new.self.parts.items) copied.parts (put.parts known counted))
