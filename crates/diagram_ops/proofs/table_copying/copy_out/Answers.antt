use Rattle.std.proofs.Common.{◌≡◌, ℕ, List, [], sym, ap, subst, ◌∙◌}
use Rattle.std.specs.Prelude.{None, length}
use Rattle.diagram_store.specs.declared.branch.Branch.{Branch}
use Rattle.diagram_store.specs.Canonical.{IsCanonical}
use Rattle.diagram_store.specs.Meaning.{value_at}
use Rattle.diagram_ops.specs.private.TableCopying.{copied_at}
use Rattle.diagram_ops.proofs.CopyLemmas.{copy_empty, copy_canonical}
use Rattle.diagram_ops.proofs.TableCopyLemmas.{none_copied}
use Rattle.diagram_ops.proofs.table_copying.copy_out.Goals as goal

pub of_nodes-requires : goal.of_nodes-requires
of_nodes-requires c =
    let P : List Branch → Type 0 = λ l. IsCanonical c.in_ok-place.place l in
    subst P (sym c.deref.ensures.value)
    (copy_canonical c.args.table.now (copied_at c.new-2.result.members) (copied_at c.copy_from.new.copy.references.members) c.new.result.items c.copy_from.new.copy.nodes.items c.args.root c.in_ok-place.place
    c.new.ensures.items c.in_ok-place.ensures.copies)

pub returns : goal.returns
returns c = λ bits.
    ap (λ r. value_at c.in_ok-made.made.nodes r bits) c.in_ok-made.ensures.root
    ∙ ap (λ l. value_at l c.in_ok-place.place bits) (c.in_ok-made.ensures.nodes ∙ c.deref.ensures.value)
    ∙ c.in_ok-place.ensures.copies.copied.means bits
