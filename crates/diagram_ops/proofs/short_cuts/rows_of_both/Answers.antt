use Rattle.diagram_ops.proofs.ShortCutLemmas.{in_all, in_same}
use Rattle.diagram_ops.proofs.short_cuts.rows_of_both.Goals as goal

pub returns-then-x-y : goal.returns-then-x-y
returns-then-x-y c = λ k below.
    let same = in_same c.args.first c.args.second k below in
    (λ h e. same.0 h, λ h. same.1 (h c.if-x-y.true))

pub returns-else-x-y : goal.returns-else-x-y
returns-else-x-y c = λ k below. (λ h e. absurd (c.if-x-y.false e), λ h. in_all k below)
