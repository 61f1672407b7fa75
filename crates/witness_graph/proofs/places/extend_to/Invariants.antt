use Rattle.std.proofs.Common.{◌≡◌, ℕ, ◌+◌, ◌-◌, length}
use Rattle.witness_graph.specs.private.Paging.{page_at}
use Rattle.witness_graph.proofs.places.extend_to.Given as goal

abbrev pub invariant-loop-alloc : goal.invariant-loop-alloc
invariant-loop-alloc l = (p : ℕ) → page_at l.pages.items p ≡ page_at l.initial.pages.items p

abbrev pub decreases-loop-alloc : goal.decreases-loop-alloc
decreases-loop-alloc l = l.page + 1 - length l.pages.items
