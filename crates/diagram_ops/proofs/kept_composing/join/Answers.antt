use Rattle.std.proofs.Common.{◌%◌, ◌/◌, sym, ap, subst, ◌∙◌, arith}
use Rattle.diagram_ops.proofs.OwnCompositionLemmas.{own_joined, own_chosen}
use Rattle.diagram_ops.proofs.kept_composing.join.Goals as goal

pub returns-in_err-joined-clause-limits : goal.returns-in_err-joined-clause-limits
returns-in_err-joined-clause-limits c = λ limit below there. c.in_err-joined.ensures.grows.limits limit there

pub returns-then-place-eq1-clause-limits : goal.returns-then-place-eq1-clause-limits
returns-then-place-eq1-clause-limits c = λ limit below there. c.in_ok-joined.ensures.grows.limits limit there

pub returns-then-place-eq1-clause-stands : goal.returns-then-place-eq1-clause-stands
returns-then-place-eq1-clause-stands c =
    own_joined c.args.table.now c.combine.new.table c.args.place c.args.low c.args.high c.in_ok-joined.joined
    c.if-place-eq1.true c.requires.low c.requires.high c.requires.low_above c.requires.high_above c.in_ok-joined.ensures.grows c.in_ok-joined.ensures.applied

pub returns-in_err-chosen-clause-limits : goal.returns-in_err-chosen-clause-limits
returns-in_err-chosen-clause-limits c = λ limit below there. c.in_err-chosen.ensures.limits limit (below (own_chosen c.args.place c.if-place-eq1.false)) there

pub returns-clause-limits : goal.returns-clause-limits
returns-clause-limits c = λ limit below there. c.in_ok-chosen.ensures.limits limit (below (own_chosen c.args.place c.if-place-eq1.false)) there
