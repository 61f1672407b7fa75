use Rattle.std.proofs.Common.{ℕ, sym, subst, arith}
use Rattle.value_search.proofs.EdgeLemmas.{IsPassed, by_between, by_edge, by_later, by_none, by_within, edge_within, next_passes, next_stops, passes_none}
use Rattle.value_search.proofs.edges.next_edge.Goals as goal
use Rattle.value_search.proofs.edges.next_edge.Goals.{then-to-from+else-not-item, else-to-from}

pub overflow_sub-to : goal.overflow_sub-to
overflow_sub-to c = let w = edge_within c.args.target.now.items c.args.from c.args.symbol c.args.to c.requires.edge in let least = w.0 in omega (arith, least)

pub returns-then-not-item-clause-none : goal.returns-then-not-item-clause-none
returns-then-not-item-clause-none c =
    next_stops c.args.target.now.items c.args.from c.args.symbol c.args.to c.requires.edge c.if-to-from.true c.item-item.result.now c.item-item.ensures.item c.if-not-item.true

pub returns-clause-none : goal.returns-clause-none
returns-clause-none c =
    let passed : IsPassed c.args.target.now.items c.args.from c.args.to = elim c.if-to-from.branch [
      | then-to-from+else-not-item w ↦ next_passes c.args.target.now.items c.args.from c.args.symbol c.args.to c.requires.edge w.if-to-from.true w.item-item.result.now w.item-item.ensures.item w.if-not-item.false
      | else-to-from w ↦ let P : ℕ → Type 0 = IsPassed c.args.target.now.items c.args.from in subst P (sym w.if-to-from.false) (passes_none c.args.target.now.items c.args.from)
    ] in
    by_none c.args.target.now.items c.args.from c.args.symbol c.args.to passed c.above.result c.above.ensures.none

pub returns-clause-edge : goal.returns-clause-edge
returns-clause-edge c =
    let passed : IsPassed c.args.target.now.items c.args.from c.args.to = elim c.if-to-from.branch [
      | then-to-from+else-not-item w ↦ next_passes c.args.target.now.items c.args.from c.args.symbol c.args.to c.requires.edge w.if-to-from.true w.item-item.result.now w.item-item.ensures.item w.if-not-item.false
      | else-to-from w ↦ let P : ℕ → Type 0 = IsPassed c.args.target.now.items c.args.from in subst P (sym w.if-to-from.false) (passes_none c.args.target.now.items c.args.from)
    ] in
    by_edge c.args.target.now.items c.args.from c.args.symbol c.args.to passed c.above.result c.above.ensures.some

pub returns-clause-next : goal.returns-clause-next
returns-clause-next c =
    let passed : IsPassed c.args.target.now.items c.args.from c.args.to = elim c.if-to-from.branch [
      | then-to-from+else-not-item w ↦ next_passes c.args.target.now.items c.args.from c.args.symbol c.args.to c.requires.edge w.if-to-from.true w.item-item.result.now w.item-item.ensures.item w.if-not-item.false
      | else-to-from w ↦ let P : ℕ → Type 0 = IsPassed c.args.target.now.items c.args.from in subst P (sym w.if-to-from.false) (passes_none c.args.target.now.items c.args.from)
    ] in
    by_between c.args.target.now.items c.args.from c.args.symbol c.args.to passed c.above.result c.above.ensures.some

pub returns-clause-later : goal.returns-clause-later
returns-clause-later c =
    let passed : IsPassed c.args.target.now.items c.args.from c.args.to = elim c.if-to-from.branch [
      | then-to-from+else-not-item w ↦ next_passes c.args.target.now.items c.args.from c.args.symbol c.args.to c.requires.edge w.if-to-from.true w.item-item.result.now w.item-item.ensures.item w.if-not-item.false
      | else-to-from w ↦ let P : ℕ → Type 0 = IsPassed c.args.target.now.items c.args.from in subst P (sym w.if-to-from.false) (passes_none c.args.target.now.items c.args.from)
    ] in
    by_later c.args.target.now.items c.args.from c.args.symbol c.args.to passed c.above.result c.above.ensures.some

pub returns-clause-within : goal.returns-clause-within
returns-clause-within c =
    let passed : IsPassed c.args.target.now.items c.args.from c.args.to = elim c.if-to-from.branch [
      | then-to-from+else-not-item w ↦ next_passes c.args.target.now.items c.args.from c.args.symbol c.args.to c.requires.edge w.if-to-from.true w.item-item.result.now w.item-item.ensures.item w.if-not-item.false
      | else-to-from w ↦ let P : ℕ → Type 0 = IsPassed c.args.target.now.items c.args.from in subst P (sym w.if-to-from.false) (passes_none c.args.target.now.items c.args.from)
    ] in
    by_within c.args.target.now.items c.args.from c.args.symbol c.args.to passed c.above.result c.above.ensures.some
