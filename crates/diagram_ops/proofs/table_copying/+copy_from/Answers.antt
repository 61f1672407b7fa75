use Rattle.std.proofs.Common.{ℕ, sym, ap, subst, ◌∙◌}
use Rattle.std.specs.Prelude.{option_map}
use Rattle.diagram_ops.specs.private.Copying.{Copies}
use Rattle.diagram_ops.specs.private.TableCopying.{copied_at}
use Rattle.diagram_ops.specs.private.TableNodes.{branch_of}
use Rattle.diagram_ops.proofs.CopyLemmas.{copies_placed, copies_constant, copies_made}
use Rattle.diagram_ops.proofs.table_copying.+copy_from.Goals as goal

pub returns-in_default-clause-copies : goal.returns-in_default-clause-copies
returns-in_default-clause-copies t c =
    let P : ℕ → Type 0 = λ p. Copies c.args.table.now (copied_at c.args.copy.now.references.members) c.args.copy.now.nodes.items
    (copied_at c.args.copy.now.references.members) c.args.copy.now.nodes.items c.args.reference p in
    subst P (sym c.from.ensures)
    (copies_constant c.args.table.now (copied_at c.args.copy.now.references.members) c.args.copy.now.nodes.items c.args.reference c.requires.copy c.requires.within
    (sym c.found.ensures ∙ ap (option_map branch_of) c.in_default.is))

pub returns-in-Some-place_of-clause-copies : goal.returns-in-Some-place_of-clause-copies
returns-in-Some-place_of-clause-copies t c =
    copies_placed c.args.table.now (copied_at c.args.copy.now.references.members) c.args.copy.now.nodes.items c.args.reference c.in-Some-place_of.place c.requires.copy
    (sym c.place_of.ensures ∙ c.in-Some-place_of.is)

pub returns-clause-copies : goal.returns-clause-copies
returns-clause-copies t c =
    copies_made c.args.table.now c.requires.reduced (c.one_reference.ensures c.args.table.now c.requires.reduced) c.args.reference (branch_of c.in-Some.found)
    (sym c.found.ensures ∙ ap (option_map branch_of) c.in-Some.is)
    (copied_at c.args.copy.now.references.members) c.args.copy.now.nodes.items
    (copied_at c.copy_from.new.copy.references.members) c.copy_from.new.copy.nodes.items
    (copied_at c.copy_from-2.new.copy.references.members) c.copy_from-2.new.copy.nodes.items
    c.in_ok-low.low c.in_ok-high.high c.in_ok-low.ensures.copies c.in_ok-high.ensures.copies
    (sym c.place_of.ensures ∙ c.in_default-place_of.is)
    (copied_at c.place_node.new.copy.references.members) c.place_node.new.copy.nodes.items
    c.in_ok-place.place c.in_ok-place.ensures.place c.in_ok-place.ensures.nodes c.in_ok-place.ensures.places
