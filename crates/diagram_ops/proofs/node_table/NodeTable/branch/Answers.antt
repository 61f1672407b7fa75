use Rattle.std.proofs.Common.{ℕ, List, ◌∷◌, [], ◌++◌, ◌+◌, ◌<◌, length, sym, ap, ◌∙◌, subst, arith}
use Rattle.diagram_store.specs.declared.branch.Branch.{Branch}
use Rattle.diagram_store.specs.Nodes.{IsAbove, IsReduced, HasVariablesBelow}
use Rattle.diagram_ops.specs.declared.node.Node.{Node}
use Rattle.diagram_ops.specs.NodeTables.{Keeps}
use Rattle.diagram_ops.specs.private.TableNodes.{branches_of}
use Rattle.diagram_ops.proofs.KeptResultLemmas.{are_right_kept}
use Rattle.diagram_ops.proofs.MadeLemmas.{Added, added, made_few}
use Rattle.diagram_ops.proofs.node_table.NodeTable.branch.Goals as goal

made : (c : goal.After-make_room) → Added (branches_of c.self.inside.nodes.members) (branches_of c.make_node.new.nodes.members) (c.in_ok-number.number + 2) c.args.var c.args.low c.args.high
made c =
    let nodes : List Branch = branches_of c.self.inside.nodes.members in
    let W : ℕ → List Branch → Type 0 = λ r l. r < length l + 2 in
    let A : ℕ → List Branch → Type 0 = λ r l. IsAbove l c.args.var r in
    let node : Node = record { var = c.args.var; low = c.args.low; high = c.args.high } in
    added c.self.inside.nodes.members c.make_node.new.nodes.members node c.in_ok-number.number c.in_ok-number.ensures.made c.self.invariant.reduced
    (subst (W c.args.low) (sym c.self.view_is) c.requires.low) (subst (W c.args.high) (sym c.self.view_is) c.requires.high)
    (subst (A c.args.low) (sym c.self.view_is) c.requires.low_above) (subst (A c.args.high) (sym c.self.view_is) c.requires.high_above)
    c.if-low-high.false (c.in_ok-number.number + 2) (omega arith)

pub invariant_of-self-2 : goal.invariant_of-self-2
invariant_of-self-2 c = record {
  reduced = (made c).reduced;
  right = c.make_room.ensures (branches_of c.make_node.new.nodes.members)
      (are_right_kept (branches_of c.self.inside.nodes.members) c.self.invariant.reduced (branches_of c.make_node.new.nodes.members) (made c).reduced (made c).keeps
      c.self.inside.results c.self.invariant.right);
  few = made_few c.self.inside.nodes.members c.make_node.new.nodes.members (record { var = c.args.var; low = c.args.low; high = c.args.high }) c.in_ok-number.number c.in_ok-number.ensures.made
      (omega (arith, c.if-count-ge-MOST_NODES.false, c.len-count.ensures.len));
}

pub returns-clause-reduced : goal.returns-clause-reduced
returns-clause-reduced c = (made c).reduced

pub returns-clause-keeps : goal.returns-clause-keeps
returns-clause-keeps c = let P : List Branch → Type 0 = λ l. Keeps l (branches_of c.make_node.new.nodes.members) in subst P c.self.view_is (made c).keeps

pub returns-clause-limits : goal.returns-clause-limits
returns-clause-limits c = λ limit below there.
    (made c).limits limit below (let P : List Branch → Type 0 = λ l. HasVariablesBelow limit l in subst P (sym c.self.view_is) there)

pub returns-clause-stands : goal.returns-clause-stands
returns-clause-stands c = (made c).stands
