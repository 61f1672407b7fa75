use Rattle.diagram_ops.proofs.ShortCutLemmas.{rows_left}
use Rattle.diagram_ops.proofs.short_cuts.possible_rows.Goals as goal

pub returns : goal.returns
returns c =
    rows_left c.args.x c.args.y c.args.z c.rows_of.result c.rows_of-2.result c.rows_of-3.result c.rows_of_both.result c.rows_of_both-2.result c.rows_of_both-3.result
    c.rows_of.ensures c.rows_of-2.ensures c.rows_of-3.ensures c.rows_of_both.ensures c.rows_of_both-2.ensures c.rows_of_both-3.ensures
