use Rattle.std.proofs.Common.{◌+◌, ◌≤◌, length, sym, ◌∙◌, arith}
use Rattle.path_sum.specs.Sums.{ways_of}
use Rattle.path_sum.proofs.ItemLemmas.{item_there, into_goes}
use Rattle.path_sum.proofs.growing.Growing.follow_into.Goals as goal

pub overflow_add-item : goal.overflow_add-item
overflow_add-item g c =
    let few : length c.args.input.now.pattern.items ≤ 1000 = c.requires.few in
    omega (arith, c.requires.item, few)

pub follow-requires-clause-edge : goal.follow-requires-clause-edge
follow-requires-clause-edge g c =
    let there = item_there c.args.input.now.pattern.items c.args.item c.requires.item in
    into_goes (ways_of c.args.input.now.pattern).edges c.args.i c.args.symbol (c.args.item + 1) c.args.transition.now.place there.0 c.args.transition.now.place.label
    (c.requires.moves there.0 there.1) (sym (c.takes.ensures there.0 there.1) ∙ c.if-not-takes.false) c.requires.label
