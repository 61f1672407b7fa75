use Rattle.std.proofs.Common.{arith}
use Rattle.diagram_ops.proofs.ShortCutLemmas.{in_all, in_inverse}
use Rattle.diagram_ops.proofs.short_cuts.rows_of.Goals as goal

pub returns-in-0 : goal.returns-in-0
returns-in-0 c = λ k below.
    let inverse = in_inverse c.args.place k below in
    (λ h. (λ e. inverse.0 h, λ e. absurd (omega (arith, c.in-0.is))), λ can. inverse.1 (can.0 c.in-0.is))

pub returns-in-1 : goal.returns-in-1
returns-in-1 c = λ k below. (λ h. (λ e. absurd (omega (arith, c.in-1.is)), λ e. h), λ can. can.1 c.in-1.is)

pub returns-in_default : goal.returns-in_default
returns-in_default c = λ k below. (λ h. (λ e. absurd (omega arith), λ e. absurd (omega arith)), λ can. in_all k below)
