use Rattle.std.proofs.Common.{◌<◌, ◌-◌, length, sym, subst, arith}
use Rattle.path_sum.specs.Sums.{ways_of}
use Rattle.path_sum.specs.private.Growing.{GrowsBy, state_of}
use Rattle.path_sum.specs.private.Work.{HaveMoves}
use Rattle.path_sum.proofs.ItemLemmas.{item_there, back_is}
use Rattle.path_sum.proofs.growing.Growing.follow_back.Goals as goal

pub follow_into-requires-clause-moves : goal.follow_into-requires-clause-moves
follow_into-requires-clause-moves g c = λ y at.
    let x = c.args.transition.now.place in
    let same = back_is c.args.i c.args.symbol x c.args.input.now.pattern.items y c.if-i-eq0.false at (sym (c.if-not-is_starred.ensures y at)) in
    subst (HaveMoves (ways_of c.args.input.now.pattern).edges c.args.i c.args.symbol x) same c.requires.moves

pub returns-clause-grows : goal.returns-clause-grows
returns-clause-grows g c =
    let items = c.args.input.now.pattern.items in
    let within : c.args.i - 1 < length items = omega (arith, c.if-i-eq0.false, c.requires.state) in
    let there = item_there items (c.args.i - 1) within in
    let same = back_is c.args.i c.args.symbol c.args.transition.now.place items there.0 c.if-i-eq0.false there.1 (sym (c.if-not-is_starred.ensures there.0 there.1)) in
    subst (λ ms. GrowsBy g.S.Semiring.operations c.args.input.now ms (state_of c.args.self.now) (state_of c.follow_into.new.self)) (sym same) (c.in_ok-follow_into.ensures.grows there.0 there.1)
