use Rattle.std.proofs.Common.{◌≡◌, sym, ap, ◌∙◌, Some}
use Rattle.semiring_laws.specs.LoweringLaws.{lowered-none, lowered-some}
use Rattle.relation_weights.specs.Relations.{relation_operations}
use Rattle.relation_weights.specs.RelationLaws.{relation_laws}
use Rattle.node_weigher.specs.NodeWeighers.{worth}
use Rattle.node_weigher.specs.WeigherLaws.{fits_known}
use Rattle.node_weigher.proofs.weigher.NodeWeigherWeigherRelations.lowered.Goals as goal

pub returns-then-same-clause-worth : goal.returns-then-same-clause-worth
returns-then-same-clause-worth c =
    let m = c.args.self.now in
    let n = m.system.semiring in
    let old = c.args.old.now in
    let weight = c.args.weight.now in
    let sum = c.in_ok-sum.ensures in
    let is = sym sum.worth ∙ c.same.ensures.0 c.if-same.true ∙ sum.grows.stays old c.requires.old in
    sym (lowered-none (relation_operations n) (relation_laws n) (worth m old) (worth m weight) (fits_known m old c.requires.old) (fits_known m weight c.requires.weight) is)

pub returns-clause-worth : goal.returns-clause-worth
returns-clause-worth c =
    let m = c.args.self.now in
    let n = m.system.semiring in
    let old = c.args.old.now in
    let weight = c.args.weight.now in
    let sum = c.in_ok-sum.ensures in
    ap Some sum.worth
    ∙ sym (lowered-some (relation_operations n) (relation_laws n) (worth m old) (worth m weight) (fits_known m old c.requires.old) (fits_known m weight c.requires.weight) (λ e.
    let same = c.same.ensures.1 (sum.worth ∙ e ∙ sym (sum.grows.stays old c.requires.old)) in
    let other = c.if-same.false in
    cc))
