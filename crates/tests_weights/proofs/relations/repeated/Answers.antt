use Rattle.std.proofs.Common.{sym, subst}
use Rattle.semiring_laws.specs.Semiring.{Fits}
use Rattle.relation_laws.specs.Building.{Parts}
use Rattle.relation_weights.specs.Relations.{relation_operations}
use Rattle.relation_weights.specs.RelationLaws.{relation_laws}
use Rattle.tests_weights.proofs.relations.repeated.Goals as goal

pub loop-init : goal.loop-init
loop-init c =
    let n = c.args.relations.now in
    let P : Parts → Type 0 = λ w. Fits (relation_operations n) w in
    subst P (sym c.in_ok-all.ensures) (relation_laws n).fits-one

pub loop-preserved : goal.loop-preserved
loop-preserved c =
    let n = c.args.relations.now in
    let P : Parts → Type 0 = λ w. Fits (relation_operations n) w in
    subst P (sym c.in_ok-all-2.ensures) ((relation_laws n).fits-extend c.loop.all c.args.w.now c.loop.invariant c.requires)
