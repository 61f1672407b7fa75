use Rattle.std.proofs.Common.{◌≡◌, ◌&&◌, ap, ◌∙◌, arith}
use Rattle.std.specs.Prelude.{slice_index_or}
use Rattle.relation_laws.specs.States.{each_below}
use Rattle.relation_laws.proofs.CallerLemmas.{each_gives}
use Rattle.relation_weights.specs.declared.rel_map.Slot.TheVariants.{Caller}
use Rattle.relation_weights.specs.Relations.{slot_fits}
use Rattle.relation_weights.specs.Actions.{frame_pairs}
use Rattle.relation_weights.specs.private.Moves.{far_bit}
use Rattle.relation_weights.proofs.ReturnLemmas.{far_next, moved_is}
use Rattle.relation_weights.proofs.returns.moves.Goals as goal

pub with_move-requires-clause-slot : goal.with_move-requires-clause-slot
with_move-requires-clause-slot c = each_gives c.args.n (λ k. slot_fits c.args.n (slice_index_or c.args.slots.now k Caller)) c.requires.fits c.loop-v.v c.loop-v-test.true

pub loop-v-preserved : goal.loop-v-preserved
loop-v-preserved c = record {
  pairs = λ x y.
      c.in_ok-made-2.ensures.pairs x y
      ∙ ap (λ b. b && far_bit c.loop-v.v (slice_index_or c.args.slots.now c.loop-v.v Caller) x (y c.loop-v.v)) (c.loop-v.invariant.pairs x y)
      ∙ far_next (frame_pairs c.args.n c.args.freed.now x y) c.loop-v.v (λ k. far_bit k (slice_index_or c.args.slots.now k Caller) x (y k));
  variables = c.in_ok-made-2.ensures.variables;
}

pub returns-clause-pairs : goal.returns-clause-pairs
returns-clause-pairs c = λ x y.
    let whole : c.loop-v.v ≡ c.args.n = omega arith in
    c.loop-v.invariant.pairs x y
    ∙ ap (λ v. frame_pairs c.args.n c.args.freed.now x y && each_below v (λ k. far_bit k (slice_index_or c.args.slots.now k Caller) x (y k))) whole
    ∙ moved_is c.args.n c.args.slots.now c.args.freed.now c.requires.freed x y
