use Rattle.std.proofs.Common.{◌≡◌, ℕ, List, ◌+◌, ◌<◌, true, false, sym, ap, subst, ◌∙◌, inl, inr}
use Rattle.std.specs.Prelude.{option_map}
use Rattle.diagram_store.specs.declared.branch.Branch.{Branch}
use Rattle.diagram_ops.specs.declared.composing.Operand.TheVariants.{First, Second}
use Rattle.diagram_ops.specs.private.Applying.{cofactor_of}
use Rattle.diagram_ops.specs.private.Composing.{position}
use Rattle.diagram_ops.specs.private.KeptResults.{IsOwnComposition}
use Rattle.diagram_ops.specs.private.TableNodes.{branch_of}
use Rattle.diagram_ops.specs.private.Tables.{Grows}
use Rattle.diagram_ops.proofs.KeepingLemmas.{keeps_same}
use Rattle.diagram_ops.proofs.UnitingLemmas.{grows_both}
use Rattle.diagram_ops.proofs.OwnCompositionLemmas.{own_never, own_always, own_lowest, own_fall, own_first, own_second, own_low_within, own_low_above, own_high_above, own_grows, own_step}
use Rattle.diagram_ops.proofs.kept_composing.+compose.Goals.{then-x-eq0-via-then-x-eq0, then-x-eq0-via-else-x-eq0+then-y-eq0}
use Rattle.diagram_ops.proofs.kept_composing.+compose.Goals as goal

pub returns-then-x-eq0-clause-composed : goal.returns-then-x-eq0-clause-composed
returns-then-x-eq0-clause-composed t c =
    own_never c.args.table.now c.requires.reduced c.args.x c.args.y c.requires.x c.requires.y
    (elim c.then-x-eq0.branch [ then-x-eq0-via-then-x-eq0 w ↦ inl w.if-x-eq0.true | then-x-eq0-via-else-x-eq0+then-y-eq0 w ↦ inr w.if-y-eq0.true ])

pub returns-in_default-clause-composed : goal.returns-in_default-clause-composed
returns-in_default-clause-composed t c =
    own_always c.args.table.now c.requires.reduced c.args.x c.args.y c.requires.x c.requires.y c.if-x-eq0.false c.if-y-eq0.false
    (sym c.in_default.is ∙ (c.lowest.ensures.lowest ∙ own_lowest c.args.table.now c.args.x c.args.y (option_map branch_of c.found-first.result) (option_map branch_of c.found-second.result) c.found-first.ensures c.found-second.ensures))

pub compose-requires : goal.compose-requires
compose-requires t c = (
  subst (λ (m : ℕ). c.branches-xs.result.0 + c.branches-ys.result.0 < m) c.decreases (own_fall c.args.table.now c.requires.reduced c.args.x c.args.y c.in-Some.place c.requires.x c.requires.y
      (sym (c.lowest.ensures.lowest ∙ own_lowest c.args.table.now c.args.x c.args.y (option_map branch_of c.found-first.result) (option_map branch_of c.found-second.result) c.found-first.ensures c.found-second.ensures) ∙ c.in-Some.is)
      false c.branches-xs.result.0 c.branches-ys.result.0 (c.branches-xs.ensures.low ∙ ap (cofactor_of (position First) c.in-Some.place false c.args.x) c.found-first.ensures) (c.branches-ys.ensures.low ∙ ap (cofactor_of (position Second) c.in-Some.place false c.args.y) c.found-second.ensures)),
  (
    c.requires.reduced,
    (
      own_first c.args.table.now c.requires.reduced c.args.x c.args.y c.in-Some.place c.requires.x c.requires.y
          (sym (c.lowest.ensures.lowest ∙ own_lowest c.args.table.now c.args.x c.args.y (option_map branch_of c.found-first.result) (option_map branch_of c.found-second.result) c.found-first.ensures c.found-second.ensures) ∙ c.in-Some.is)
          c.args.table.now (keeps_same c.args.table.now) false c.branches-xs.result.0 (c.branches-xs.ensures.low ∙ ap (cofactor_of (position First) c.in-Some.place false c.args.x) c.found-first.ensures),
      own_second c.args.table.now c.requires.reduced c.args.x c.args.y c.in-Some.place c.requires.x c.requires.y
          (sym (c.lowest.ensures.lowest ∙ own_lowest c.args.table.now c.args.x c.args.y (option_map branch_of c.found-first.result) (option_map branch_of c.found-second.result) c.found-first.ensures c.found-second.ensures) ∙ c.in-Some.is)
          c.args.table.now (keeps_same c.args.table.now) false c.branches-ys.result.0 (c.branches-ys.ensures.low ∙ ap (cofactor_of (position Second) c.in-Some.place false c.args.y) c.found-second.ensures),
    ),
  ),
)

pub compose-requires-2 : goal.compose-requires-2
compose-requires-2 t c = (
  subst (λ (m : ℕ). c.branches-xs.result.1 + c.branches-ys.result.1 < m) c.decreases (own_fall c.args.table.now c.requires.reduced c.args.x c.args.y c.in-Some.place c.requires.x c.requires.y
      (sym (c.lowest.ensures.lowest ∙ own_lowest c.args.table.now c.args.x c.args.y (option_map branch_of c.found-first.result) (option_map branch_of c.found-second.result) c.found-first.ensures c.found-second.ensures) ∙ c.in-Some.is)
      true c.branches-xs.result.1 c.branches-ys.result.1 (c.branches-xs.ensures.high ∙ ap (cofactor_of (position First) c.in-Some.place true c.args.x) c.found-first.ensures) (c.branches-ys.ensures.high ∙ ap (cofactor_of (position Second) c.in-Some.place true c.args.y) c.found-second.ensures)),
  (
    c.in_ok-low.ensures.grows.reduced,
    (
      own_first c.args.table.now c.requires.reduced c.args.x c.args.y c.in-Some.place c.requires.x c.requires.y
          (sym (c.lowest.ensures.lowest ∙ own_lowest c.args.table.now c.args.x c.args.y (option_map branch_of c.found-first.result) (option_map branch_of c.found-second.result) c.found-first.ensures c.found-second.ensures) ∙ c.in-Some.is)
          c.compose.new.table c.in_ok-low.ensures.grows.keeps true c.branches-xs.result.1 (c.branches-xs.ensures.high ∙ ap (cofactor_of (position First) c.in-Some.place true c.args.x) c.found-first.ensures),
      own_second c.args.table.now c.requires.reduced c.args.x c.args.y c.in-Some.place c.requires.x c.requires.y
          (sym (c.lowest.ensures.lowest ∙ own_lowest c.args.table.now c.args.x c.args.y (option_map branch_of c.found-first.result) (option_map branch_of c.found-second.result) c.found-first.ensures c.found-second.ensures) ∙ c.in-Some.is)
          c.compose.new.table c.in_ok-low.ensures.grows.keeps true c.branches-ys.result.1 (c.branches-ys.ensures.high ∙ ap (cofactor_of (position Second) c.in-Some.place true c.args.y) c.found-second.ensures),
    ),
  ),
)

pub returns-in_err-high-clause-grows : goal.returns-in_err-high-clause-grows
returns-in_err-high-clause-grows t c = grows_both c.args.table.now c.compose.new.table c.compose-2.new.table c.in_ok-low.ensures.grows c.in_err-high.ensures.grows

pub join-requires-clause-low : goal.join-requires-clause-low
join-requires-clause-low t c =
    own_low_within c.args.table.now c.requires.reduced c.args.x c.args.y c.in-Some.place c.requires.x c.requires.y
    (sym (c.lowest.ensures.lowest ∙ own_lowest c.args.table.now c.args.x c.args.y (option_map branch_of c.found-first.result) (option_map branch_of c.found-second.result) c.found-first.ensures c.found-second.ensures) ∙ c.in-Some.is)
    c.branches-xs.result.0 c.branches-ys.result.0 (c.branches-xs.ensures.low ∙ ap (cofactor_of (position First) c.in-Some.place false c.args.x) c.found-first.ensures) (c.branches-ys.ensures.low ∙ ap (cofactor_of (position Second) c.in-Some.place false c.args.y) c.found-second.ensures)
    c.compose.new.table c.in_ok-low.low c.in_ok-low.ensures.grows c.in_ok-low.ensures.composed
    c.branches-xs.result.1 c.branches-ys.result.1 (c.branches-xs.ensures.high ∙ ap (cofactor_of (position First) c.in-Some.place true c.args.x) c.found-first.ensures) (c.branches-ys.ensures.high ∙ ap (cofactor_of (position Second) c.in-Some.place true c.args.y) c.found-second.ensures)
    c.compose-2.new.table c.in_ok-high.high c.in_ok-high.ensures.grows c.in_ok-high.ensures.composed

pub join-requires-clause-low_above : goal.join-requires-clause-low_above
join-requires-clause-low_above t c =
    own_low_above c.args.table.now c.requires.reduced c.args.x c.args.y c.in-Some.place c.requires.x c.requires.y
    (sym (c.lowest.ensures.lowest ∙ own_lowest c.args.table.now c.args.x c.args.y (option_map branch_of c.found-first.result) (option_map branch_of c.found-second.result) c.found-first.ensures c.found-second.ensures) ∙ c.in-Some.is)
    c.branches-xs.result.0 c.branches-ys.result.0 (c.branches-xs.ensures.low ∙ ap (cofactor_of (position First) c.in-Some.place false c.args.x) c.found-first.ensures) (c.branches-ys.ensures.low ∙ ap (cofactor_of (position Second) c.in-Some.place false c.args.y) c.found-second.ensures)
    c.compose.new.table c.in_ok-low.low c.in_ok-low.ensures.grows c.in_ok-low.ensures.composed
    c.branches-xs.result.1 c.branches-ys.result.1 (c.branches-xs.ensures.high ∙ ap (cofactor_of (position First) c.in-Some.place true c.args.x) c.found-first.ensures) (c.branches-ys.ensures.high ∙ ap (cofactor_of (position Second) c.in-Some.place true c.args.y) c.found-second.ensures)
    c.compose-2.new.table c.in_ok-high.high c.in_ok-high.ensures.grows c.in_ok-high.ensures.composed

pub join-requires-clause-high_above : goal.join-requires-clause-high_above
join-requires-clause-high_above t c =
    own_high_above c.args.table.now c.requires.reduced c.args.x c.args.y c.in-Some.place c.requires.x c.requires.y
    (sym (c.lowest.ensures.lowest ∙ own_lowest c.args.table.now c.args.x c.args.y (option_map branch_of c.found-first.result) (option_map branch_of c.found-second.result) c.found-first.ensures c.found-second.ensures) ∙ c.in-Some.is)
    c.branches-xs.result.0 c.branches-ys.result.0 (c.branches-xs.ensures.low ∙ ap (cofactor_of (position First) c.in-Some.place false c.args.x) c.found-first.ensures) (c.branches-ys.ensures.low ∙ ap (cofactor_of (position Second) c.in-Some.place false c.args.y) c.found-second.ensures)
    c.compose.new.table c.in_ok-low.low c.in_ok-low.ensures.grows c.in_ok-low.ensures.composed
    c.branches-xs.result.1 c.branches-ys.result.1 (c.branches-xs.ensures.high ∙ ap (cofactor_of (position First) c.in-Some.place true c.args.x) c.found-first.ensures) (c.branches-ys.ensures.high ∙ ap (cofactor_of (position Second) c.in-Some.place true c.args.y) c.found-second.ensures)
    c.compose-2.new.table c.in_ok-high.high c.in_ok-high.ensures.grows c.in_ok-high.ensures.composed

pub returns-in_err-result-clause-grows : goal.returns-in_err-result-clause-grows
returns-in_err-result-clause-grows t c =
    own_grows c.args.table.now c.requires.reduced c.args.x c.args.y c.in-Some.place c.requires.x c.requires.y
    (sym (c.lowest.ensures.lowest ∙ own_lowest c.args.table.now c.args.x c.args.y (option_map branch_of c.found-first.result) (option_map branch_of c.found-second.result) c.found-first.ensures c.found-second.ensures) ∙ c.in-Some.is)
    c.branches-xs.result.0 c.branches-ys.result.0 (c.branches-xs.ensures.low ∙ ap (cofactor_of (position First) c.in-Some.place false c.args.x) c.found-first.ensures) (c.branches-ys.ensures.low ∙ ap (cofactor_of (position Second) c.in-Some.place false c.args.y) c.found-second.ensures)
    c.compose.new.table c.in_ok-low.low c.in_ok-low.ensures.grows c.in_ok-low.ensures.composed
    c.branches-xs.result.1 c.branches-ys.result.1 (c.branches-xs.ensures.high ∙ ap (cofactor_of (position First) c.in-Some.place true c.args.x) c.found-first.ensures) (c.branches-ys.ensures.high ∙ ap (cofactor_of (position Second) c.in-Some.place true c.args.y) c.found-second.ensures)
    c.compose-2.new.table c.in_ok-high.high c.in_ok-high.ensures.grows c.in_ok-high.ensures.composed
    c.join.new.table c.in_err-result.ensures.reduced c.in_err-result.ensures.keeps c.in_err-result.ensures.limits

pub keep-requires : goal.keep-requires
keep-requires t c =
    own_step c.args.table.now c.requires.reduced c.args.x c.args.y c.in-Some.place c.requires.x c.requires.y
    (sym (c.lowest.ensures.lowest ∙ own_lowest c.args.table.now c.args.x c.args.y (option_map branch_of c.found-first.result) (option_map branch_of c.found-second.result) c.found-first.ensures c.found-second.ensures) ∙ c.in-Some.is)
    c.branches-xs.result.0 c.branches-ys.result.0 (c.branches-xs.ensures.low ∙ ap (cofactor_of (position First) c.in-Some.place false c.args.x) c.found-first.ensures) (c.branches-ys.ensures.low ∙ ap (cofactor_of (position Second) c.in-Some.place false c.args.y) c.found-second.ensures)
    c.compose.new.table c.in_ok-low.low c.in_ok-low.ensures.grows c.in_ok-low.ensures.composed
    c.branches-xs.result.1 c.branches-ys.result.1 (c.branches-xs.ensures.high ∙ ap (cofactor_of (position First) c.in-Some.place true c.args.x) c.found-first.ensures) (c.branches-ys.ensures.high ∙ ap (cofactor_of (position Second) c.in-Some.place true c.args.y) c.found-second.ensures)
    c.compose-2.new.table c.in_ok-high.high c.in_ok-high.ensures.grows c.in_ok-high.ensures.composed
    c.join.new.table c.in_ok-result.ensures.reduced c.in_ok-result.ensures.keeps c.in_ok-result.result c.in_ok-result.ensures.stands

pub returns-clause-grows : goal.returns-clause-grows
returns-clause-grows t c =
    let P : List Branch → Type 0 = λ l. Grows c.args.table.now l in
    subst P (sym c.keep.ensures)
    (own_grows c.args.table.now c.requires.reduced c.args.x c.args.y c.in-Some.place c.requires.x c.requires.y
    (sym (c.lowest.ensures.lowest ∙ own_lowest c.args.table.now c.args.x c.args.y (option_map branch_of c.found-first.result) (option_map branch_of c.found-second.result) c.found-first.ensures c.found-second.ensures) ∙ c.in-Some.is)
    c.branches-xs.result.0 c.branches-ys.result.0 (c.branches-xs.ensures.low ∙ ap (cofactor_of (position First) c.in-Some.place false c.args.x) c.found-first.ensures) (c.branches-ys.ensures.low ∙ ap (cofactor_of (position Second) c.in-Some.place false c.args.y) c.found-second.ensures)
    c.compose.new.table c.in_ok-low.low c.in_ok-low.ensures.grows c.in_ok-low.ensures.composed
    c.branches-xs.result.1 c.branches-ys.result.1 (c.branches-xs.ensures.high ∙ ap (cofactor_of (position First) c.in-Some.place true c.args.x) c.found-first.ensures) (c.branches-ys.ensures.high ∙ ap (cofactor_of (position Second) c.in-Some.place true c.args.y) c.found-second.ensures)
    c.compose-2.new.table c.in_ok-high.high c.in_ok-high.ensures.grows c.in_ok-high.ensures.composed
    c.join.new.table c.in_ok-result.ensures.reduced c.in_ok-result.ensures.keeps c.in_ok-result.ensures.limits)

pub returns-clause-composed : goal.returns-clause-composed
returns-clause-composed t c =
    let P : List Branch → Type 0 = λ l. IsOwnComposition l c.args.x c.args.y c.in_ok-result.result in
    subst P (sym c.keep.ensures)
    (own_step c.args.table.now c.requires.reduced c.args.x c.args.y c.in-Some.place c.requires.x c.requires.y
    (sym (c.lowest.ensures.lowest ∙ own_lowest c.args.table.now c.args.x c.args.y (option_map branch_of c.found-first.result) (option_map branch_of c.found-second.result) c.found-first.ensures c.found-second.ensures) ∙ c.in-Some.is)
    c.branches-xs.result.0 c.branches-ys.result.0 (c.branches-xs.ensures.low ∙ ap (cofactor_of (position First) c.in-Some.place false c.args.x) c.found-first.ensures) (c.branches-ys.ensures.low ∙ ap (cofactor_of (position Second) c.in-Some.place false c.args.y) c.found-second.ensures)
    c.compose.new.table c.in_ok-low.low c.in_ok-low.ensures.grows c.in_ok-low.ensures.composed
    c.branches-xs.result.1 c.branches-ys.result.1 (c.branches-xs.ensures.high ∙ ap (cofactor_of (position First) c.in-Some.place true c.args.x) c.found-first.ensures) (c.branches-ys.ensures.high ∙ ap (cofactor_of (position Second) c.in-Some.place true c.args.y) c.found-second.ensures)
    c.compose-2.new.table c.in_ok-high.high c.in_ok-high.ensures.grows c.in_ok-high.ensures.composed
    c.join.new.table c.in_ok-result.ensures.reduced c.in_ok-result.ensures.keeps c.in_ok-result.result c.in_ok-result.ensures.stands)
