use Rattle.diagram_ops.proofs.TableLemmas.{widened_value}
use Rattle.diagram_ops.proofs.applied.widen.Goals as goal

pub returns : goal.returns
returns c = λ p q.
    widened_value c.args.table c.from.result c.from-2.result c.from-3.result c.from-4.result c.value2.result c.value2-2.result c.value2-3.result c.value2-4.result
    c.from.ensures c.from-2.ensures c.from-3.ensures c.from-4.ensures c.value2.ensures c.value2-2.ensures c.value2-3.ensures c.value2-4.ensures p q
