use Rattle.std.proofs.Common.{List, [], ◌∷◌, ◌++◌, ap, ◌∙◌, ◌+◌, arith}
use Rattle.diagram_ops.specs.private.TableCopying.{copied_at}
use Rattle.diagram_ops.proofs.TableCopyLemmas.{copied_pushed}
use Rattle.diagram_ops.proofs.table_copying.place_node.Goals as goal

pub returns-clause-places : goal.returns-clause-places
returns-clause-places c = λ k.
    ap (λ l. copied_at l k) c.in_ok-append.ensures.members
    ∙ copied_pushed c.args.copy.now.references.members c.args.reference (c.len.result + 2) (omega (arith, c.requires.count, c.len.ensures)) k
