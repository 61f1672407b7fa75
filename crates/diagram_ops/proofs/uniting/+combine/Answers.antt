use Rattle.std.proofs.Common.{◌≡◌, ℕ, List, ◌+◌, ◌<◌, true, false, length, sym, subst, ◌∙◌}
use Rattle.diagram_store.specs.declared.branch.Branch.{Branch}
use Rattle.diagram_ops.specs.declared.kept_results.Operation.{Operation}
use Rattle.diagram_ops.specs.private.Applying.{IsApplied}
use Rattle.diagram_ops.specs.private.KeptResults.{IsResult}
use Rattle.diagram_ops.specs.private.Tables.{Grows}
use Rattle.diagram_ops.specs.private.Uniting.{table_of, operation_of}
use Rattle.diagram_ops.proofs.KeepingLemmas.{keeps_same}
use Rattle.diagram_ops.proofs.UnitingLemmas.{grows_both, applied_at_once, either_way, these_within, these_sum, as_result, from_result, ways_fall, way_within, low_within, low_above, high_above, united_grows, united}
use Rattle.diagram_ops.proofs.uniting.+combine.Goals as goal

pub returns-in-Some-clause-applied : goal.returns-in-Some-clause-applied
returns-in-Some-clause-applied t c =
    applied_at_once (table_of c.args.junction) c.args.table.now c.args.x c.args.y c.in-Some.known c.requires.reduced c.requires.x c.requires.y c.in-Some.ensures.right

pub returns-in-Some-kept-clause-applied : goal.returns-in-Some-kept-clause-applied
returns-in-Some-kept-clause-applied t c =
    let P : Operation → Type 0 = λ o. IsResult o c.args.table.now c.in_order-a.result.0 c.in_order-a.result.1 c.in-Some-kept.known in
    either_way c.args.junction c.args.table.now c.args.x c.args.y c.in_order-a.result.0 c.in_order-a.result.1 c.in-Some-kept.known c.in_order-a.ensures
    (from_result c.args.junction c.args.table.now c.in_order-a.result.0 c.in_order-a.result.1 c.in-Some-kept.known (subst P c.operation_of-operation.ensures c.in-Some-kept.ensures))

pub combine-requires : goal.combine-requires
combine-requires t c = (
  subst (λ (m : ℕ). c.ways_on-ways.result.first.0 + c.ways_on-ways.result.second.0 < m) (these_sum c.args.x c.args.y c.in_order-a.result.0 c.in_order-a.result.1 c.in_order-a.ensures ∙ c.decreases)
      (ways_fall (table_of c.args.junction) c.args.table.now c.requires.reduced c.in_order-a.result.0 c.in_order-a.result.1 c.ways_on-ways.result.var (these_within c.args.x c.args.y c.in_order-a.result.0 c.in_order-a.result.1 (length c.args.table.now + 2) c.in_order-a.ensures c.requires.x c.requires.y).0 (these_within c.args.x c.args.y c.in_order-a.result.0 c.in_order-a.result.1 (length c.args.table.now + 2) c.in_order-a.ensures c.requires.x c.requires.y).1 c.ways_on-ways.ensures.lowest
      false c.ways_on-ways.result.first.0 c.ways_on-ways.result.second.0 c.ways_on-ways.ensures.first_low c.ways_on-ways.ensures.second_low),
  (
    c.requires.reduced,
    (
      way_within (table_of c.args.junction) c.args.table.now c.requires.reduced c.in_order-a.result.0 c.in_order-a.result.1 c.ways_on-ways.result.var (these_within c.args.x c.args.y c.in_order-a.result.0 c.in_order-a.result.1 (length c.args.table.now + 2) c.in_order-a.ensures c.requires.x c.requires.y).0 (these_within c.args.x c.args.y c.in_order-a.result.0 c.in_order-a.result.1 (length c.args.table.now + 2) c.in_order-a.ensures c.requires.x c.requires.y).1 c.ways_on-ways.ensures.lowest
          c.args.table.now (keeps_same c.args.table.now) false c.in_order-a.result.0 c.ways_on-ways.result.first.0 (these_within c.args.x c.args.y c.in_order-a.result.0 c.in_order-a.result.1 (length c.args.table.now + 2) c.in_order-a.ensures c.requires.x c.requires.y).0 c.ways_on-ways.ensures.first_low,
      way_within (table_of c.args.junction) c.args.table.now c.requires.reduced c.in_order-a.result.0 c.in_order-a.result.1 c.ways_on-ways.result.var (these_within c.args.x c.args.y c.in_order-a.result.0 c.in_order-a.result.1 (length c.args.table.now + 2) c.in_order-a.ensures c.requires.x c.requires.y).0 (these_within c.args.x c.args.y c.in_order-a.result.0 c.in_order-a.result.1 (length c.args.table.now + 2) c.in_order-a.ensures c.requires.x c.requires.y).1 c.ways_on-ways.ensures.lowest
          c.args.table.now (keeps_same c.args.table.now) false c.in_order-a.result.1 c.ways_on-ways.result.second.0 (these_within c.args.x c.args.y c.in_order-a.result.0 c.in_order-a.result.1 (length c.args.table.now + 2) c.in_order-a.ensures c.requires.x c.requires.y).1 c.ways_on-ways.ensures.second_low,
    ),
  ),
)

pub combine-requires-2 : goal.combine-requires-2
combine-requires-2 t c = (
  subst (λ (m : ℕ). c.ways_on-ways.result.first.1 + c.ways_on-ways.result.second.1 < m) (these_sum c.args.x c.args.y c.in_order-a.result.0 c.in_order-a.result.1 c.in_order-a.ensures ∙ c.decreases)
      (ways_fall (table_of c.args.junction) c.args.table.now c.requires.reduced c.in_order-a.result.0 c.in_order-a.result.1 c.ways_on-ways.result.var (these_within c.args.x c.args.y c.in_order-a.result.0 c.in_order-a.result.1 (length c.args.table.now + 2) c.in_order-a.ensures c.requires.x c.requires.y).0 (these_within c.args.x c.args.y c.in_order-a.result.0 c.in_order-a.result.1 (length c.args.table.now + 2) c.in_order-a.ensures c.requires.x c.requires.y).1 c.ways_on-ways.ensures.lowest
      true c.ways_on-ways.result.first.1 c.ways_on-ways.result.second.1 c.ways_on-ways.ensures.first_high c.ways_on-ways.ensures.second_high),
  (
    c.in_ok-low.ensures.grows.reduced,
    (
      way_within (table_of c.args.junction) c.args.table.now c.requires.reduced c.in_order-a.result.0 c.in_order-a.result.1 c.ways_on-ways.result.var (these_within c.args.x c.args.y c.in_order-a.result.0 c.in_order-a.result.1 (length c.args.table.now + 2) c.in_order-a.ensures c.requires.x c.requires.y).0 (these_within c.args.x c.args.y c.in_order-a.result.0 c.in_order-a.result.1 (length c.args.table.now + 2) c.in_order-a.ensures c.requires.x c.requires.y).1 c.ways_on-ways.ensures.lowest
          c.combine.new.table c.in_ok-low.ensures.grows.keeps true c.in_order-a.result.0 c.ways_on-ways.result.first.1 (these_within c.args.x c.args.y c.in_order-a.result.0 c.in_order-a.result.1 (length c.args.table.now + 2) c.in_order-a.ensures c.requires.x c.requires.y).0 c.ways_on-ways.ensures.first_high,
      way_within (table_of c.args.junction) c.args.table.now c.requires.reduced c.in_order-a.result.0 c.in_order-a.result.1 c.ways_on-ways.result.var (these_within c.args.x c.args.y c.in_order-a.result.0 c.in_order-a.result.1 (length c.args.table.now + 2) c.in_order-a.ensures c.requires.x c.requires.y).0 (these_within c.args.x c.args.y c.in_order-a.result.0 c.in_order-a.result.1 (length c.args.table.now + 2) c.in_order-a.ensures c.requires.x c.requires.y).1 c.ways_on-ways.ensures.lowest
          c.combine.new.table c.in_ok-low.ensures.grows.keeps true c.in_order-a.result.1 c.ways_on-ways.result.second.1 (these_within c.args.x c.args.y c.in_order-a.result.0 c.in_order-a.result.1 (length c.args.table.now + 2) c.in_order-a.ensures c.requires.x c.requires.y).1 c.ways_on-ways.ensures.second_high,
    ),
  ),
)

pub returns-in_err-high-clause-grows : goal.returns-in_err-high-clause-grows
returns-in_err-high-clause-grows t c = grows_both c.args.table.now c.combine.new.table c.combine-2.new.table c.in_ok-low.ensures.grows c.in_err-high.ensures.grows

pub branch-table-requires-clause-low : goal.branch-table-requires-clause-low
branch-table-requires-clause-low t c =
    low_within (table_of c.args.junction) c.args.table.now c.requires.reduced c.in_order-a.result.0 c.in_order-a.result.1 c.ways_on-ways.result.var (these_within c.args.x c.args.y c.in_order-a.result.0 c.in_order-a.result.1 (length c.args.table.now + 2) c.in_order-a.ensures c.requires.x c.requires.y).0 (these_within c.args.x c.args.y c.in_order-a.result.0 c.in_order-a.result.1 (length c.args.table.now + 2) c.in_order-a.ensures c.requires.x c.requires.y).1 c.ways_on-ways.ensures.lowest
    c.ways_on-ways.result.first.0 c.ways_on-ways.result.second.0 c.ways_on-ways.ensures.first_low c.ways_on-ways.ensures.second_low c.combine.new.table c.in_ok-low.low c.in_ok-low.ensures.grows c.in_ok-low.ensures.applied
    c.ways_on-ways.result.first.1 c.ways_on-ways.result.second.1 c.ways_on-ways.ensures.first_high c.ways_on-ways.ensures.second_high c.combine-2.new.table c.in_ok-high.high c.in_ok-high.ensures.grows c.in_ok-high.ensures.applied

pub branch-table-requires-clause-low_above : goal.branch-table-requires-clause-low_above
branch-table-requires-clause-low_above t c =
    low_above (table_of c.args.junction) c.args.table.now c.requires.reduced c.in_order-a.result.0 c.in_order-a.result.1 c.ways_on-ways.result.var (these_within c.args.x c.args.y c.in_order-a.result.0 c.in_order-a.result.1 (length c.args.table.now + 2) c.in_order-a.ensures c.requires.x c.requires.y).0 (these_within c.args.x c.args.y c.in_order-a.result.0 c.in_order-a.result.1 (length c.args.table.now + 2) c.in_order-a.ensures c.requires.x c.requires.y).1 c.ways_on-ways.ensures.lowest
    c.ways_on-ways.result.first.0 c.ways_on-ways.result.second.0 c.ways_on-ways.ensures.first_low c.ways_on-ways.ensures.second_low c.combine.new.table c.in_ok-low.low c.in_ok-low.ensures.grows c.in_ok-low.ensures.applied
    c.ways_on-ways.result.first.1 c.ways_on-ways.result.second.1 c.ways_on-ways.ensures.first_high c.ways_on-ways.ensures.second_high c.combine-2.new.table c.in_ok-high.high c.in_ok-high.ensures.grows c.in_ok-high.ensures.applied

pub branch-table-requires-clause-high_above : goal.branch-table-requires-clause-high_above
branch-table-requires-clause-high_above t c =
    high_above (table_of c.args.junction) c.args.table.now c.requires.reduced c.in_order-a.result.0 c.in_order-a.result.1 c.ways_on-ways.result.var (these_within c.args.x c.args.y c.in_order-a.result.0 c.in_order-a.result.1 (length c.args.table.now + 2) c.in_order-a.ensures c.requires.x c.requires.y).0 (these_within c.args.x c.args.y c.in_order-a.result.0 c.in_order-a.result.1 (length c.args.table.now + 2) c.in_order-a.ensures c.requires.x c.requires.y).1 c.ways_on-ways.ensures.lowest
    c.ways_on-ways.result.first.0 c.ways_on-ways.result.second.0 c.ways_on-ways.ensures.first_low c.ways_on-ways.ensures.second_low c.combine.new.table c.in_ok-low.low c.in_ok-low.ensures.grows c.in_ok-low.ensures.applied
    c.ways_on-ways.result.first.1 c.ways_on-ways.result.second.1 c.ways_on-ways.ensures.first_high c.ways_on-ways.ensures.second_high c.combine-2.new.table c.in_ok-high.high c.in_ok-high.ensures.grows c.in_ok-high.ensures.applied

pub returns-in_err-result-clause-grows : goal.returns-in_err-result-clause-grows
returns-in_err-result-clause-grows t c =
    united_grows (table_of c.args.junction) c.args.table.now c.requires.reduced c.in_order-a.result.0 c.in_order-a.result.1 c.ways_on-ways.result.var (these_within c.args.x c.args.y c.in_order-a.result.0 c.in_order-a.result.1 (length c.args.table.now + 2) c.in_order-a.ensures c.requires.x c.requires.y).0 (these_within c.args.x c.args.y c.in_order-a.result.0 c.in_order-a.result.1 (length c.args.table.now + 2) c.in_order-a.ensures c.requires.x c.requires.y).1 c.ways_on-ways.ensures.lowest
    c.ways_on-ways.result.first.0 c.ways_on-ways.result.second.0 c.ways_on-ways.ensures.first_low c.ways_on-ways.ensures.second_low c.combine.new.table c.in_ok-low.low c.in_ok-low.ensures.grows c.in_ok-low.ensures.applied
    c.ways_on-ways.result.first.1 c.ways_on-ways.result.second.1 c.ways_on-ways.ensures.first_high c.ways_on-ways.ensures.second_high c.combine-2.new.table c.in_ok-high.high c.in_ok-high.ensures.grows c.in_ok-high.ensures.applied
    c.branch-table.new.self c.in_err-result.ensures.reduced c.in_err-result.ensures.keeps c.in_err-result.ensures.limits

pub keep-requires : goal.keep-requires
keep-requires t c =
    let P : Operation → Type 0 = λ o. IsResult o c.branch-table.new.self c.in_order-a.result.0 c.in_order-a.result.1 c.in_ok-result.result in
    subst P (sym c.operation_of-operation.ensures)
    (as_result c.args.junction c.branch-table.new.self c.in_order-a.result.0 c.in_order-a.result.1 c.in_ok-result.result
    (united (table_of c.args.junction) c.args.table.now c.requires.reduced c.in_order-a.result.0 c.in_order-a.result.1 c.ways_on-ways.result.var (these_within c.args.x c.args.y c.in_order-a.result.0 c.in_order-a.result.1 (length c.args.table.now + 2) c.in_order-a.ensures c.requires.x c.requires.y).0 (these_within c.args.x c.args.y c.in_order-a.result.0 c.in_order-a.result.1 (length c.args.table.now + 2) c.in_order-a.ensures c.requires.x c.requires.y).1 c.ways_on-ways.ensures.lowest
    c.ways_on-ways.result.first.0 c.ways_on-ways.result.second.0 c.ways_on-ways.ensures.first_low c.ways_on-ways.ensures.second_low c.combine.new.table c.in_ok-low.low c.in_ok-low.ensures.grows c.in_ok-low.ensures.applied
    c.ways_on-ways.result.first.1 c.ways_on-ways.result.second.1 c.ways_on-ways.ensures.first_high c.ways_on-ways.ensures.second_high c.combine-2.new.table c.in_ok-high.high c.in_ok-high.ensures.grows c.in_ok-high.ensures.applied
    c.branch-table.new.self c.in_ok-result.ensures.reduced c.in_ok-result.ensures.keeps c.in_ok-result.result c.in_ok-result.ensures.stands))

pub returns-clause-grows : goal.returns-clause-grows
returns-clause-grows t c =
    let P : List Branch → Type 0 = λ l. Grows c.args.table.now l in
    subst P (sym c.keep.ensures)
    (united_grows (table_of c.args.junction) c.args.table.now c.requires.reduced c.in_order-a.result.0 c.in_order-a.result.1 c.ways_on-ways.result.var (these_within c.args.x c.args.y c.in_order-a.result.0 c.in_order-a.result.1 (length c.args.table.now + 2) c.in_order-a.ensures c.requires.x c.requires.y).0 (these_within c.args.x c.args.y c.in_order-a.result.0 c.in_order-a.result.1 (length c.args.table.now + 2) c.in_order-a.ensures c.requires.x c.requires.y).1 c.ways_on-ways.ensures.lowest
    c.ways_on-ways.result.first.0 c.ways_on-ways.result.second.0 c.ways_on-ways.ensures.first_low c.ways_on-ways.ensures.second_low c.combine.new.table c.in_ok-low.low c.in_ok-low.ensures.grows c.in_ok-low.ensures.applied
    c.ways_on-ways.result.first.1 c.ways_on-ways.result.second.1 c.ways_on-ways.ensures.first_high c.ways_on-ways.ensures.second_high c.combine-2.new.table c.in_ok-high.high c.in_ok-high.ensures.grows c.in_ok-high.ensures.applied
    c.branch-table.new.self c.in_ok-result.ensures.reduced c.in_ok-result.ensures.keeps c.in_ok-result.ensures.limits)

pub returns-clause-applied : goal.returns-clause-applied
returns-clause-applied t c =
    let P : List Branch → Type 0 = λ l. IsApplied (table_of c.args.junction) l c.args.x c.args.y 0 c.in_ok-result.result in
    subst P (sym c.keep.ensures)
    (either_way c.args.junction c.branch-table.new.self c.args.x c.args.y c.in_order-a.result.0 c.in_order-a.result.1 c.in_ok-result.result c.in_order-a.ensures
    (united (table_of c.args.junction) c.args.table.now c.requires.reduced c.in_order-a.result.0 c.in_order-a.result.1 c.ways_on-ways.result.var (these_within c.args.x c.args.y c.in_order-a.result.0 c.in_order-a.result.1 (length c.args.table.now + 2) c.in_order-a.ensures c.requires.x c.requires.y).0 (these_within c.args.x c.args.y c.in_order-a.result.0 c.in_order-a.result.1 (length c.args.table.now + 2) c.in_order-a.ensures c.requires.x c.requires.y).1 c.ways_on-ways.ensures.lowest
    c.ways_on-ways.result.first.0 c.ways_on-ways.result.second.0 c.ways_on-ways.ensures.first_low c.ways_on-ways.ensures.second_low c.combine.new.table c.in_ok-low.low c.in_ok-low.ensures.grows c.in_ok-low.ensures.applied
    c.ways_on-ways.result.first.1 c.ways_on-ways.result.second.1 c.ways_on-ways.ensures.first_high c.ways_on-ways.ensures.second_high c.combine-2.new.table c.in_ok-high.high c.in_ok-high.ensures.grows c.in_ok-high.ensures.applied
    c.branch-table.new.self c.in_ok-result.ensures.reduced c.in_ok-result.ensures.keeps c.in_ok-result.result c.in_ok-result.ensures.stands))
