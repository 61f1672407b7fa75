use Rattle.std.proofs.Common.{arith}
use Rattle.value_search.proofs.EdgeLemmas.{by_edge, by_within, edge_back, edge_within, first_next, first_none, passes_none}
use Rattle.value_search.proofs.edges.first_edge.Goals as goal

pub returns-then-from-items-clause-none : goal.returns-then-from-items-clause-none
returns-then-from-items-clause-none c = λ to edge.
    let w = edge_within c.args.target.now.items c.args.from c.args.symbol to edge in
    let most = w.1 in
    let least = w.2 in
    omega (arith, most, least, c.if-from-items.true, c.items.ensures.value)

pub returns-then-stays-clause-edge : goal.returns-then-stays-clause-edge
returns-then-stays-clause-edge c = let stays = c.stays.ensures.yes c.if-stays.true in edge_back c.args.target.now.items c.args.from c.args.symbol stays.0 stays.1 stays.2

pub returns-then-stays-clause-next : goal.returns-then-stays-clause-next
returns-then-stays-clause-next c = λ to low edge.
    let w = edge_within c.args.target.now.items c.args.from c.args.symbol to edge in
    let least = w.2 in
    omega (arith, least, low)

pub returns-clause-none : goal.returns-clause-none
returns-clause-none c = first_none c.args.target.now.items c.args.from c.args.symbol (c.stays.ensures.no c.if-stays.false) c.above.result c.above.ensures.none

pub returns-clause-edge : goal.returns-clause-edge
returns-clause-edge c = by_edge c.args.target.now.items c.args.from c.args.symbol c.args.from (passes_none c.args.target.now.items c.args.from) c.above.result c.above.ensures.some

pub returns-clause-next : goal.returns-clause-next
returns-clause-next c = first_next c.args.target.now.items c.args.from c.args.symbol (c.stays.ensures.no c.if-stays.false) c.above.result c.above.ensures.some

pub returns-clause-within : goal.returns-clause-within
returns-clause-within c = by_within c.args.target.now.items c.args.from c.args.symbol c.args.from (passes_none c.args.target.now.items c.args.from) c.above.result c.above.ensures.some
