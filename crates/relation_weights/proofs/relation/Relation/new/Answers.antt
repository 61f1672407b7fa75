use Rattle.std.proofs.Common.{◌≡◌, sym, subst}
use Rattle.diagram_store.specs.declared.diagram.Diagram.{Diagram}
use Rattle.relation_laws.specs.Relations.{relation_of}
use Rattle.relation_weights.proofs.DiagramLemmas.{made}
use Rattle.relation_weights.proofs.OperationLemmas.{parts_of}
use Rattle.relation_weights.proofs.relation.Relation.new.Goals as goal

pub returns : goal.returns
returns c = λ n a below same.
    let P : Diagram → Type 0 = λ d. parts_of d ≡ relation_of n a in
    subst P (sym c.in_ok-diagram.ensures.ok) (made c.args.diagram n a below same)
