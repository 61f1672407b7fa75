use Rattle.std.proofs.Common.{◌≡◌, ◌↔◌, subst}
use Rattle.std.specs.Prelude.{IsTrue, nat_eq}
use Rattle.relation_laws.specs.Building.{Parts}
use Rattle.relation_laws.specs.Relations.{relation_of, no_pairs}
use Rattle.relation_laws.proofs.CallerLemmas.{parts_same}
use Rattle.relation_weights.proofs.OperationLemmas.{empty_is, parts_of}
use Rattle.relation_weights.proofs.relation.Relation.is_empty.Goals as goal

pub returns : goal.returns
returns c = λ n.
    let d = c.diagram.result.now in
    let P : Parts → Type 0 = λ w. IsTrue (nat_eq d.root 0) ↔ (w ≡ relation_of n no_pairs) in
    subst P (parts_same (parts_of d) c.args.self.now c.diagram.ensures.root c.diagram.ensures.nodes) (empty_is d n)
