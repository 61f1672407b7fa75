use Rattle.std.proofs.Common.{◌<◌, length, refl, sym, subst, arith}
use Rattle.path_sum.specs.Sums.{ways_of}
use Rattle.path_sum.specs.private.Growing.{GrowsBy, state_of}
use Rattle.path_sum.proofs.ItemLemmas.{moves_hold, sets_of, past_items}
use Rattle.path_sum.proofs.LoopLemmas.{edges_made}
use Rattle.path_sum.proofs.growing.Growing.follow_edges.Goals as goal

pub follow_back-requires-clause-moves : goal.follow_back-requires-clause-moves
follow_back-requires-clause-moves g c =
    let input = c.args.input.now in
    (moves_hold c.args.i c.args.symbol c.args.transition.now.place input.pattern.items (sets_of input.pattern c.items.ensures.valid)).0

pub follow_on-requires-clause-moves : goal.follow_on-requires-clause-moves
follow_on-requires-clause-moves g c =
    let input = c.args.input.now in
    (moves_hold c.args.i c.args.symbol c.args.transition.now.place input.pattern.items (sets_of input.pattern c.items.ensures.valid)).1

pub returns-then-i-items-clause-grows : goal.returns-then-i-items-clause-grows
returns-then-i-items-clause-grows g c =
    let input = c.args.input.now in
    let past : length input.pattern.items < c.args.i = omega (arith, c.if-i-items.true, c.items.ensures.count) in
    let none = past_items c.args.i c.args.symbol c.args.transition.now.place input.pattern.items past (sets_of input.pattern c.items.ensures.valid) in
    subst (λ ms. GrowsBy g.S.Semiring.operations input ms (state_of c.args.self.now) (state_of c.args.self.now)) (sym none) refl

pub returns-clause-grows : goal.returns-clause-grows
returns-clause-grows g c =
    let input = c.args.input.now in
    edges_made (g.S.Semiring.operations input.semiring) input.side input.opening input.transitions (ways_of input.pattern) c.args.i c.args.symbol c.args.transition.now.place input.pattern.items
    (state_of c.args.self.now) (state_of c.follow_back.new.self) (state_of c.follow_on.new.self) (sets_of input.pattern c.items.ensures.valid)
    c.in_ok-follow_back.ensures.grows c.in_ok-follow_on.ensures.grows
