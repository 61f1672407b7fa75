use Rattle.std.specs.Prelude.{bit_and, bit_xor}
use Rattle.std.proofs.lemmas.Bool.{eqb-true, eq-eqb}
use Rattle.diagram_ops.proofs.ShortCutLemmas.{same_on_rows}
use Rattle.diagram_ops.proofs.short_cuts.are_same_on.Goals as goal

pub returns : goal.returns
returns c =
    let differences = bit_and (bit_xor c.args.table c.args.other) c.args.rows in
    let same = same_on_rows c.args.rows c.args.table c.args.other c.ranges.rows.fits in
    (λ e. same.0 (eqb-true differences 0 e), λ h. eq-eqb differences 0 (same.1 h))
