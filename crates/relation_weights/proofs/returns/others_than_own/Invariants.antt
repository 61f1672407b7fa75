use Rattle.std.proofs.Common.{not, slice_index_or}
use Rattle.relation_weights.specs.declared.rel_map.Slot.TheVariants.{Caller}
use Rattle.relation_weights.specs.private.Moves.{is_own}
use Rattle.relation_weights.proofs.ReturnLemmas.{Lists}
use Rattle.relation_weights.proofs.returns.others_than_own.Given as goal

abbrev pub invariant-loop-v : goal.invariant-loop-v
invariant-loop-v l = Lists (λ k. not (is_own k (slice_index_or l.slots k Caller))) l.v l.list.items
