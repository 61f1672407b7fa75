use Rattle.std.proofs.Common.{sym, ap, ◌∙◌, Some}
use Rattle.semiring_laws.specs.LoweringLaws.{lowered-none, lowered-some}
use Rattle.genkill_weights.specs.GenKill.{genkill_operations}
use Rattle.genkill_weights.specs.GenKillLaws.{genkill_laws}
use Rattle.genkill_weights.proofs.genkill.GenKillSemiring.lowered.Goals as goal

pub returns-then-has_runs : goal.returns-then-has_runs
returns-then-has_runs g c =
    let n = g.row.N in
    sym (lowered-none (genkill_operations n) (genkill_laws n) c.args.old.now c.args.weight.now c.requires.old c.requires.weight (c.has_runs.ensures.0 c.if-has_runs.true))

pub returns : goal.returns
returns g c =
    let n = g.row.N in
    ap Some c.either_of.ensures
    ∙ sym (lowered-some (genkill_operations n) (genkill_laws n) c.args.old.now c.args.weight.now c.requires.old c.requires.weight (λ e.
    let held = c.has_runs.ensures.1 e in cc))
