use Rattle.std.proofs.Common.{sym, subst}
use Rattle.witness_graph.specs.declared.node.Side.{Side}
use Rattle.witness_graph.specs.Runs.{concatenations, parts_runs}
use Rattle.report_text.specs.private.Counting.{IsCounted}
use Rattle.report_text.proofs.totals.of_parts.Goals as goal

pub returns-in-Pre : goal.returns-in-Pre
returns-in-Pre c = λ rs xs ys r p q.
    subst (λ (side : Side). IsCounted c.of_concatenations-in-Pre.result (parts_runs side rs xs ys)) (sym c.in-Pre.is)
    (c.of_concatenations-in-Pre.ensures rs (concatenations xs ys) r (c.of_concatenations.ensures xs ys p q))

pub returns-in-Post : goal.returns-in-Post
returns-in-Post c = λ rs xs ys r p q.
    subst (λ (side : Side). IsCounted c.of_concatenations-in-Post-2.result (parts_runs side rs xs ys)) (sym c.in-Post.is)
    (c.of_concatenations-in-Post-2.ensures xs (concatenations ys rs) p (c.of_concatenations-in-Post.ensures ys rs q r))
