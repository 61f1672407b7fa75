use Rattle.std.proofs.Common.{sym, ap, ◌∙◌, Some}
use Rattle.semiring_laws.specs.LoweringLaws.{lowered-none, lowered-some}
use Rattle.copy_weights.specs.CopyConst.{copy_operations}
use Rattle.copy_weights.specs.CopyLaws.{copy_laws}
use Rattle.copy_weights.proofs.copy_const.CopyConstSemiring.lowered.Goals as goal

pub returns-then-has_all : goal.returns-then-has_all
returns-then-has_all c =
    let n = c.args.self.now in
    sym (lowered-none (copy_operations n) (copy_laws n) c.args.old.now c.args.weight.now c.requires.old c.requires.weight (c.has_all.ensures.0 c.if-has_all.true))

pub returns : goal.returns
returns c =
    let n = c.args.self.now in
    ap Some c.in_ok-sum.ensures
    ∙ sym (lowered-some (copy_operations n) (copy_laws n) c.args.old.now c.args.weight.now c.requires.old c.requires.weight (λ e.
    let held = c.has_all.ensures.1 e in
    let other = c.if-has_all.false in
    cc))
