use Rattle.std.proofs.Common.{◌+◌, List, ◌∷◌, [], ◌++◌, sym, ap, ◌∙◌, subst, arith}
use Rattle.diagram_store.specs.declared.branch.Branch.{Branch}
use Rattle.diagram_store.specs.TripleTables.{known}
use Rattle.diagram_ops.specs.private.Scratch.{IsNext}
use Rattle.diagram_ops.proofs.ScratchLemmas.{scratch_next}
use Rattle.diagram_ops.proofs.scratch.Scratch.add.Goals as goal

pub invariant_of-self-2 : goal.invariant_of-self-2
invariant_of-self-2 c =
    let next : IsNext c.self.inside.nodes.items c.args.node = let P : List Branch → Type 0 = λ l. IsNext l c.args.node in subst P (sym c.self.view_is) c.requires in
    scratch_next (known c.self.inside.places) (known c.insert.new.self) c.self.inside.nodes.items c.push.new.self.items (c.len.result + 2) c.from.result c.args.node
    c.self.invariant next
    (c.in_ok-push.ensures.items ∙ ap (λ l. l ++ c.args.node ∷ []) c.reserve.ensures.items)
    (omega arith)
    c.from.ensures
    c.in_ok-insert.ensures.ok
