use Rattle.std.proofs.Common.{[], ◌++◌, ◌+◌, ◌<◌, length, drop, sym, ap, ◌∙◌, arith}
use Rattle.std.specs.Prelude.{cond}
use Rattle.path_sum.specs.Sums.{ways_of, grow}
use Rattle.path_sum.specs.private.Growing.{state_of}
use Rattle.path_sum.specs.private.Work.{into_moves, on_moves}
use Rattle.path_sum.proofs.ItemLemmas.{item_there, on_step, have_first, have_rest}
use Rattle.path_sum.proofs.LoopLemmas.{item_more}
use Rattle.path_sum.proofs.growing.Growing.follow_on.Goals as goal

pub follow_into-requires-clause-moves : goal.follow_into-requires-clause-moves
follow_into-requires-clause-moves g c = λ y at.
    let x = c.args.transition.now.place in
    let items = c.args.input.now.pattern.items in
    let k = c.loop-item.item in
    have_first (ways_of c.args.input.now.pattern).edges c.args.i c.args.symbol x (on_moves c.args.i c.args.symbol x (k + 1) (drop k items)) (into_moves c.args.i c.args.symbol x (k + 1) y)
    (cond y.star (on_moves c.args.i c.args.symbol x (k + 1 + 1) (drop (k + 1) items)) []) (on_step c.args.i c.args.symbol x items k y at) c.loop-item.invariant.1

pub returns-then-not-is_starred-clause-grows : goal.returns-then-not-is_starred-clause-grows
returns-then-not-is_starred-clause-grows g c =
    let s = g.S.Semiring.operations c.args.input.now.semiring in
    let input = c.args.input.now in
    let k = c.loop-item.item in
    let x = c.args.transition.now.place in
    let within : k < length input.pattern.items = omega (arith, c.loop-item-test.true, c.items-item-end.ensures.count) in
    let there = item_there input.pattern.items k within in
    let left = on_moves c.args.i c.args.symbol x (k + 1 + 1) (drop (k + 1) input.pattern.items) in
    let new = state_of c.follow_into.new.self in
    sym (
    ap (λ b. grow s input.side input.opening input.transitions (ways_of input.pattern) new (cond b left [])) (c.if-not-is_starred.ensures there.0 there.1)
    ∙ item_more s input.side input.opening input.transitions (ways_of input.pattern) c.args.i c.args.symbol x input.pattern.items k there.0 (state_of c.loop-item.self) new _
    there.1 c.loop-item.invariant.0 (c.in_ok-follow_into.ensures.grows there.0 there.1)
    )

pub loop-item-preserved : goal.loop-item-preserved
loop-item-preserved g c =
    let s = g.S.Semiring.operations c.args.input.now.semiring in
    let input = c.args.input.now in
    let k = c.loop-item.item in
    let x = c.args.transition.now.place in
    let within : k < length input.pattern.items = omega (arith, c.loop-item-test.true, c.items-item-end.ensures.count) in
    let there = item_there input.pattern.items k within in
    let left = on_moves c.args.i c.args.symbol x (k + 1 + 1) (drop (k + 1) input.pattern.items) in
    let new = state_of c.follow_into.new.self in
    let star = c.if-not-is_starred.ensures there.0 there.1 in (
      ap (λ b. grow s input.side input.opening input.transitions (ways_of input.pattern) new (cond b left [])) star
          ∙ item_more s input.side input.opening input.transitions (ways_of input.pattern) c.args.i c.args.symbol x input.pattern.items k there.0 (state_of c.loop-item.self) new _
          there.1 c.loop-item.invariant.0 (c.in_ok-follow_into.ensures.grows there.0 there.1),
      have_rest (ways_of input.pattern).edges c.args.i c.args.symbol x (on_moves c.args.i c.args.symbol x (k + 1) (drop k input.pattern.items)) (into_moves c.args.i c.args.symbol x (k + 1) there.0) left
          (on_step c.args.i c.args.symbol x input.pattern.items k there.0 there.1 ∙ ap (λ b. into_moves c.args.i c.args.symbol x (k + 1) there.0 ++ cond b left []) (sym star)) c.loop-item.invariant.1,
      c.in_ok-follow_into.ensures.ready,
      c.follow_into.ensures.graph ∙ c.loop-item.invariant.3,
    )
