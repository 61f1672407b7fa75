use Rattle.std.proofs.Common.{sym, ◌∙◌, arith}
use Rattle.value_search.proofs.EdgeLemmas.{above_ends, above_found, above_more, above_stops, passes_on}
use Rattle.value_search.proofs.edges.above.Goals as goal

pub returns-then-has-clause-some : goal.returns-then-has-clause-some
returns-then-has-clause-some c =
    above_found c.args.target.now.items c.args.from c.args.symbol c.loop-i.i c.loop-i.invariant.0 c.loop-i.invariant.1 c.item-item.result.now c.item-item.ensures.item (sym c.has.ensures ∙ c.if-has.true)

pub returns-then-not-item-clause-none : goal.returns-then-not-item-clause-none
returns-then-not-item-clause-none c =
    above_stops c.args.target.now.items c.args.from c.args.symbol c.loop-i.i c.loop-i.invariant.0 c.loop-i.invariant.1 c.item-item.result.now c.item-item.ensures.item (sym c.has.ensures ∙ c.if-has.false) c.if-not-item.true

pub loop-i-preserved : goal.loop-i-preserved
loop-i-preserved c =
    let items = c.args.target.now.items in
    let x = c.item-item.result.now in (
      passes_on items c.args.from c.loop-i.i c.loop-i.invariant.0 x c.item-item.ensures.item c.if-not-item.false,
      above_more items c.args.from c.args.symbol c.loop-i.i c.loop-i.invariant.0 c.loop-i.invariant.1 x c.item-item.ensures.item (sym c.has.ensures ∙ c.if-has.false),
    )

pub returns-clause-none : goal.returns-clause-none
returns-clause-none c =
    above_ends c.args.target.now.items c.args.from c.args.symbol c.loop-i.i c.loop-i.invariant.0 c.loop-i.invariant.1 (omega (arith, c.loop-i-test.false, c.items-i-end.ensures.value))
