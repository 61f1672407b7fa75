use Rattle.std.proofs.Common.{List, get_or, sym, subst}
use Rattle.diagram_store.specs.declared.branch.Branch.{Branch}
use Rattle.diagram_ops.specs.private.Scratch.{IsNext}
use Rattle.diagram_ops.proofs.ScratchLemmas.{next_of}
use Rattle.diagram_ops.proofs.scratch.Scratch.of_nodes.Goals as goal

abbrev blank : Branch
blank = record { var = 0; low = 0; high = 0 }

pub add-requires : goal.add-requires
add-requires c =
    let P : List Branch → Type 0 = λ l. IsNext l (get_or c.args.nodes.now c.loop-k.k blank) in
    subst P (sym c.loop-k.invariant) (next_of c.args.nodes.now c.requires c.loop-k.k blank c.loop-k-test.true)
