use Rattle.std.proofs.Common.{arith}
use Rattle.diagram_store.specs.TripleTables.{known}
use Rattle.diagram_ops.proofs.ApplyingLemmas.{are_applied_kept}
use Rattle.diagram_ops.proofs.ComposingLemmas.{joined_stands}
use Rattle.diagram_ops.proofs.ShortCutLemmas.{applies_at_once}
use Rattle.diagram_ops.proofs.composing.join.Goals as goal

pub returns-then-place-eq1-clause-stands : goal.returns-then-place-eq1-clause-stands
returns-then-place-eq1-clause-stands c =
    joined_stands c.args.scratch.now c.apply.new.scratch (known c.apply.new.results) c.args.place c.args.low c.args.high c.in_ok-joined.joined
    c.if-place-eq1.true c.requires.low c.requires.high c.requires.low_above c.requires.high_above c.in_ok-joined.ensures

pub returns-clause-joins : goal.returns-clause-joins
returns-clause-joins c =
    are_applied_kept c.args.scratch.now c.requires.reduced c.branch-scratch.new.self c.in_ok-chosen.ensures.reduced c.in_ok-chosen.ensures.keeps 252 (known c.args.joins.now) c.requires.joins

pub returns-in-Some-clause-stands : goal.returns-in-Some-clause-stands
returns-in-Some-clause-stands c =
    joined_stands c.args.scratch.now c.args.scratch.now (known c.args.joins.now) c.args.place c.args.low c.args.high c.in-Some.known
    c.if-place-eq1.true c.requires.low c.requires.high c.requires.low_above c.requires.high_above
    (applies_at_once 252 c.args.scratch.now (known c.args.joins.now) c.args.low c.args.high 0 c.in-Some.known c.requires.reduced c.requires.joins c.requires.low c.requires.high (omega arith) c.in-Some.ensures)
