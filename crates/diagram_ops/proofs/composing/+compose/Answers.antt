use Rattle.std.proofs.Common.{ℕ, ◌+◌, ◌<◌, inl, inr, true, false, sym, ap, subst, ◌∙◌}
use Rattle.diagram_store.specs.Nodes.{node_at}
use Rattle.diagram_store.specs.TripleTables.{known}
use Rattle.diagram_ops.specs.declared.composing.Operand.TheVariants.{First, Second}
use Rattle.diagram_ops.specs.private.Applying.{cofactor_of}
use Rattle.diagram_ops.specs.private.Composing.{position}
use Rattle.diagram_ops.proofs.ComposingLemmas.{lowest_read, composes_never, composes_always, composes_known, lowest_place, branches_fall, first_within, second_within, low_within, low_above, high_above, composes_step}
use Rattle.diagram_ops.proofs.composing.+compose.Goals.{then-x-eq0-via-then-x-eq0, then-x-eq0-via-else-x-eq0+then-y-eq0}
use Rattle.diagram_ops.proofs.composing.+compose.Goals as goal

pub returns-then-x-eq0 : goal.returns-then-x-eq0
returns-then-x-eq0 t c =
    composes_never c.args.a.now.nodes c.args.b.now.nodes c.args.scratch.now c.requires.reduced (known c.args.results.now) (known c.args.joins.now) c.requires.results c.requires.joins c.args.x c.args.y c.requires.x c.requires.y
    (elim c.then-x-eq0.branch [ then-x-eq0-via-then-x-eq0 w ↦ inl w.if-x-eq0.true | then-x-eq0-via-else-x-eq0+then-y-eq0 w ↦ inr w.if-y-eq0.true ])

pub returns-in_default : goal.returns-in_default
returns-in_default t c =
    composes_always c.args.a.now.nodes c.args.b.now.nodes c.args.scratch.now c.requires.reduced (known c.args.results.now) (known c.args.joins.now) c.requires.results c.requires.joins c.args.x c.args.y c.requires.x c.requires.y
    c.if-x-eq0.false c.if-y-eq0.false (sym c.in_default.is ∙ (c.lowest.ensures.lowest ∙ lowest_read c.args.a.now.nodes c.args.b.now.nodes c.args.x c.args.y c.node-first.result c.node-second.result (c.node-first.ensures ∙ ap (λ l. node_at l c.args.x) c.nodes.ensures) (c.node-second.ensures ∙ ap (λ l. node_at l c.args.y) c.nodes-2.ensures)))

pub returns-in-Some-get : goal.returns-in-Some-get
returns-in-Some-get t c =
    composes_known c.args.a.now.nodes c.args.b.now.nodes c.args.scratch.now c.requires.reduced (known c.args.results.now) (known c.args.joins.now) c.requires.results c.requires.joins c.args.x c.args.y c.requires.x c.requires.y
    c.in-Some-get.result (sym c.get.ensures ∙ c.in-Some-get.is)

pub compose-requires : goal.compose-requires
compose-requires t c = (
  subst (λ (m : ℕ). c.branches-xs.result.0 + c.branches-ys.result.0 < m) c.decreases (branches_fall c.args.a.now.nodes c.args.b.now.nodes c.args.a.now.is_canonical.reduced c.args.b.now.is_canonical.reduced c.args.x c.args.y c.in-Some.place c.requires.x c.requires.y
      (lowest_place c.args.a.now.nodes c.args.b.now.nodes c.args.x c.args.y c.in-Some.place (sym (c.lowest.ensures.lowest ∙ lowest_read c.args.a.now.nodes c.args.b.now.nodes c.args.x c.args.y c.node-first.result c.node-second.result (c.node-first.ensures ∙ ap (λ l. node_at l c.args.x) c.nodes.ensures) (c.node-second.ensures ∙ ap (λ l. node_at l c.args.y) c.nodes-2.ensures)) ∙ c.in-Some.is))
      false c.branches-xs.result.0 c.branches-ys.result.0 (record { first = (c.branches-xs.ensures.low ∙ ap (cofactor_of (position First) c.in-Some.place false c.args.x) (c.node-first.ensures ∙ ap (λ l. node_at l c.args.x) c.nodes.ensures)); second = (c.branches-ys.ensures.low ∙ ap (cofactor_of (position Second) c.in-Some.place false c.args.y) (c.node-second.ensures ∙ ap (λ l. node_at l c.args.y) c.nodes-2.ensures)) })),
  (
    c.requires.reduced,
    (
      first_within c.args.a.now.nodes c.args.b.now.nodes c.args.a.now.is_canonical.reduced c.args.b.now.is_canonical.reduced c.args.x c.args.y c.in-Some.place c.requires.x c.requires.y
          (lowest_place c.args.a.now.nodes c.args.b.now.nodes c.args.x c.args.y c.in-Some.place (sym (c.lowest.ensures.lowest ∙ lowest_read c.args.a.now.nodes c.args.b.now.nodes c.args.x c.args.y c.node-first.result c.node-second.result (c.node-first.ensures ∙ ap (λ l. node_at l c.args.x) c.nodes.ensures) (c.node-second.ensures ∙ ap (λ l. node_at l c.args.y) c.nodes-2.ensures)) ∙ c.in-Some.is))
          false c.branches-xs.result.0 (c.branches-xs.ensures.low ∙ ap (cofactor_of (position First) c.in-Some.place false c.args.x) (c.node-first.ensures ∙ ap (λ l. node_at l c.args.x) c.nodes.ensures)),
      (
        second_within c.args.a.now.nodes c.args.b.now.nodes c.args.a.now.is_canonical.reduced c.args.b.now.is_canonical.reduced c.args.x c.args.y c.in-Some.place c.requires.x c.requires.y
            (lowest_place c.args.a.now.nodes c.args.b.now.nodes c.args.x c.args.y c.in-Some.place (sym (c.lowest.ensures.lowest ∙ lowest_read c.args.a.now.nodes c.args.b.now.nodes c.args.x c.args.y c.node-first.result c.node-second.result (c.node-first.ensures ∙ ap (λ l. node_at l c.args.x) c.nodes.ensures) (c.node-second.ensures ∙ ap (λ l. node_at l c.args.y) c.nodes-2.ensures)) ∙ c.in-Some.is))
            false c.branches-ys.result.0 (c.branches-ys.ensures.low ∙ ap (cofactor_of (position Second) c.in-Some.place false c.args.y) (c.node-second.ensures ∙ ap (λ l. node_at l c.args.y) c.nodes-2.ensures)),
        (c.requires.results, c.requires.joins),
      ),
    ),
  ),
)

pub compose-requires-2 : goal.compose-requires-2
compose-requires-2 t c = (
  subst (λ (m : ℕ). c.branches-xs.result.1 + c.branches-ys.result.1 < m) c.decreases (branches_fall c.args.a.now.nodes c.args.b.now.nodes c.args.a.now.is_canonical.reduced c.args.b.now.is_canonical.reduced c.args.x c.args.y c.in-Some.place c.requires.x c.requires.y
      (lowest_place c.args.a.now.nodes c.args.b.now.nodes c.args.x c.args.y c.in-Some.place (sym (c.lowest.ensures.lowest ∙ lowest_read c.args.a.now.nodes c.args.b.now.nodes c.args.x c.args.y c.node-first.result c.node-second.result (c.node-first.ensures ∙ ap (λ l. node_at l c.args.x) c.nodes.ensures) (c.node-second.ensures ∙ ap (λ l. node_at l c.args.y) c.nodes-2.ensures)) ∙ c.in-Some.is))
      true c.branches-xs.result.1 c.branches-ys.result.1 (record { first = (c.branches-xs.ensures.high ∙ ap (cofactor_of (position First) c.in-Some.place true c.args.x) (c.node-first.ensures ∙ ap (λ l. node_at l c.args.x) c.nodes.ensures)); second = (c.branches-ys.ensures.high ∙ ap (cofactor_of (position Second) c.in-Some.place true c.args.y) (c.node-second.ensures ∙ ap (λ l. node_at l c.args.y) c.nodes-2.ensures)) })),
  (
    c.in_ok-low.ensures.reduced,
    (
      first_within c.args.a.now.nodes c.args.b.now.nodes c.args.a.now.is_canonical.reduced c.args.b.now.is_canonical.reduced c.args.x c.args.y c.in-Some.place c.requires.x c.requires.y
          (lowest_place c.args.a.now.nodes c.args.b.now.nodes c.args.x c.args.y c.in-Some.place (sym (c.lowest.ensures.lowest ∙ lowest_read c.args.a.now.nodes c.args.b.now.nodes c.args.x c.args.y c.node-first.result c.node-second.result (c.node-first.ensures ∙ ap (λ l. node_at l c.args.x) c.nodes.ensures) (c.node-second.ensures ∙ ap (λ l. node_at l c.args.y) c.nodes-2.ensures)) ∙ c.in-Some.is))
          true c.branches-xs.result.1 (c.branches-xs.ensures.high ∙ ap (cofactor_of (position First) c.in-Some.place true c.args.x) (c.node-first.ensures ∙ ap (λ l. node_at l c.args.x) c.nodes.ensures)),
      (
        second_within c.args.a.now.nodes c.args.b.now.nodes c.args.a.now.is_canonical.reduced c.args.b.now.is_canonical.reduced c.args.x c.args.y c.in-Some.place c.requires.x c.requires.y
            (lowest_place c.args.a.now.nodes c.args.b.now.nodes c.args.x c.args.y c.in-Some.place (sym (c.lowest.ensures.lowest ∙ lowest_read c.args.a.now.nodes c.args.b.now.nodes c.args.x c.args.y c.node-first.result c.node-second.result (c.node-first.ensures ∙ ap (λ l. node_at l c.args.x) c.nodes.ensures) (c.node-second.ensures ∙ ap (λ l. node_at l c.args.y) c.nodes-2.ensures)) ∙ c.in-Some.is))
            true c.branches-ys.result.1 (c.branches-ys.ensures.high ∙ ap (cofactor_of (position Second) c.in-Some.place true c.args.y) (c.node-second.ensures ∙ ap (λ l. node_at l c.args.y) c.nodes-2.ensures)),
        (c.in_ok-low.ensures.known, c.in_ok-low.ensures.applied),
      ),
    ),
  ),
)

pub join-requires-clause-low : goal.join-requires-clause-low
join-requires-clause-low t c =
    low_within c.args.a.now.nodes c.args.b.now.nodes c.args.a.now.is_canonical.reduced c.args.b.now.is_canonical.reduced c.args.x c.args.y c.in-Some.place c.requires.x c.requires.y
    (lowest_place c.args.a.now.nodes c.args.b.now.nodes c.args.x c.args.y c.in-Some.place (sym (c.lowest.ensures.lowest ∙ lowest_read c.args.a.now.nodes c.args.b.now.nodes c.args.x c.args.y c.node-first.result c.node-second.result (c.node-first.ensures ∙ ap (λ l. node_at l c.args.x) c.nodes.ensures) (c.node-second.ensures ∙ ap (λ l. node_at l c.args.y) c.nodes-2.ensures)) ∙ c.in-Some.is))
    c.args.scratch.now c.branches-xs.result.0 c.branches-ys.result.0 (record { first = (c.branches-xs.ensures.low ∙ ap (cofactor_of (position First) c.in-Some.place false c.args.x) (c.node-first.ensures ∙ ap (λ l. node_at l c.args.x) c.nodes.ensures)); second = (c.branches-ys.ensures.low ∙ ap (cofactor_of (position Second) c.in-Some.place false c.args.y) (c.node-second.ensures ∙ ap (λ l. node_at l c.args.y) c.nodes-2.ensures)) })
    c.compose.new.scratch (known c.compose.new.results) (known c.compose.new.joins) c.in_ok-low.low c.in_ok-low.ensures
    c.branches-xs.result.1 c.branches-ys.result.1 (record { first = (c.branches-xs.ensures.high ∙ ap (cofactor_of (position First) c.in-Some.place true c.args.x) (c.node-first.ensures ∙ ap (λ l. node_at l c.args.x) c.nodes.ensures)); second = (c.branches-ys.ensures.high ∙ ap (cofactor_of (position Second) c.in-Some.place true c.args.y) (c.node-second.ensures ∙ ap (λ l. node_at l c.args.y) c.nodes-2.ensures)) })
    c.compose-2.new.scratch (known c.compose-2.new.results) (known c.compose-2.new.joins) c.in_ok-high.high c.in_ok-high.ensures

pub join-requires-clause-low_above : goal.join-requires-clause-low_above
join-requires-clause-low_above t c =
    low_above c.args.a.now.nodes c.args.b.now.nodes c.args.a.now.is_canonical.reduced c.args.b.now.is_canonical.reduced c.args.x c.args.y c.in-Some.place c.requires.x c.requires.y
    (lowest_place c.args.a.now.nodes c.args.b.now.nodes c.args.x c.args.y c.in-Some.place (sym (c.lowest.ensures.lowest ∙ lowest_read c.args.a.now.nodes c.args.b.now.nodes c.args.x c.args.y c.node-first.result c.node-second.result (c.node-first.ensures ∙ ap (λ l. node_at l c.args.x) c.nodes.ensures) (c.node-second.ensures ∙ ap (λ l. node_at l c.args.y) c.nodes-2.ensures)) ∙ c.in-Some.is))
    c.args.scratch.now c.branches-xs.result.0 c.branches-ys.result.0 (record { first = (c.branches-xs.ensures.low ∙ ap (cofactor_of (position First) c.in-Some.place false c.args.x) (c.node-first.ensures ∙ ap (λ l. node_at l c.args.x) c.nodes.ensures)); second = (c.branches-ys.ensures.low ∙ ap (cofactor_of (position Second) c.in-Some.place false c.args.y) (c.node-second.ensures ∙ ap (λ l. node_at l c.args.y) c.nodes-2.ensures)) })
    c.compose.new.scratch (known c.compose.new.results) (known c.compose.new.joins) c.in_ok-low.low c.in_ok-low.ensures
    c.branches-xs.result.1 c.branches-ys.result.1 (record { first = (c.branches-xs.ensures.high ∙ ap (cofactor_of (position First) c.in-Some.place true c.args.x) (c.node-first.ensures ∙ ap (λ l. node_at l c.args.x) c.nodes.ensures)); second = (c.branches-ys.ensures.high ∙ ap (cofactor_of (position Second) c.in-Some.place true c.args.y) (c.node-second.ensures ∙ ap (λ l. node_at l c.args.y) c.nodes-2.ensures)) })
    c.compose-2.new.scratch (known c.compose-2.new.results) (known c.compose-2.new.joins) c.in_ok-high.high c.in_ok-high.ensures

pub join-requires-clause-high_above : goal.join-requires-clause-high_above
join-requires-clause-high_above t c =
    high_above c.args.a.now.nodes c.args.b.now.nodes c.args.a.now.is_canonical.reduced c.args.b.now.is_canonical.reduced c.args.x c.args.y c.in-Some.place c.requires.x c.requires.y
    (lowest_place c.args.a.now.nodes c.args.b.now.nodes c.args.x c.args.y c.in-Some.place (sym (c.lowest.ensures.lowest ∙ lowest_read c.args.a.now.nodes c.args.b.now.nodes c.args.x c.args.y c.node-first.result c.node-second.result (c.node-first.ensures ∙ ap (λ l. node_at l c.args.x) c.nodes.ensures) (c.node-second.ensures ∙ ap (λ l. node_at l c.args.y) c.nodes-2.ensures)) ∙ c.in-Some.is))
    c.args.scratch.now c.branches-xs.result.0 c.branches-ys.result.0 (record { first = (c.branches-xs.ensures.low ∙ ap (cofactor_of (position First) c.in-Some.place false c.args.x) (c.node-first.ensures ∙ ap (λ l. node_at l c.args.x) c.nodes.ensures)); second = (c.branches-ys.ensures.low ∙ ap (cofactor_of (position Second) c.in-Some.place false c.args.y) (c.node-second.ensures ∙ ap (λ l. node_at l c.args.y) c.nodes-2.ensures)) })
    c.compose.new.scratch (known c.compose.new.results) (known c.compose.new.joins) c.in_ok-low.low c.in_ok-low.ensures
    c.branches-xs.result.1 c.branches-ys.result.1 (record { first = (c.branches-xs.ensures.high ∙ ap (cofactor_of (position First) c.in-Some.place true c.args.x) (c.node-first.ensures ∙ ap (λ l. node_at l c.args.x) c.nodes.ensures)); second = (c.branches-ys.ensures.high ∙ ap (cofactor_of (position Second) c.in-Some.place true c.args.y) (c.node-second.ensures ∙ ap (λ l. node_at l c.args.y) c.nodes-2.ensures)) })
    c.compose-2.new.scratch (known c.compose-2.new.results) (known c.compose-2.new.joins) c.in_ok-high.high c.in_ok-high.ensures

pub returns : goal.returns
returns t c =
    composes_step c.args.a.now.nodes c.args.b.now.nodes c.args.a.now.is_canonical.reduced c.args.b.now.is_canonical.reduced c.args.x c.args.y c.in-Some.place c.requires.x c.requires.y
    (lowest_place c.args.a.now.nodes c.args.b.now.nodes c.args.x c.args.y c.in-Some.place (sym (c.lowest.ensures.lowest ∙ lowest_read c.args.a.now.nodes c.args.b.now.nodes c.args.x c.args.y c.node-first.result c.node-second.result (c.node-first.ensures ∙ ap (λ l. node_at l c.args.x) c.nodes.ensures) (c.node-second.ensures ∙ ap (λ l. node_at l c.args.y) c.nodes-2.ensures)) ∙ c.in-Some.is))
    c.args.scratch.now c.branches-xs.result.0 c.branches-ys.result.0 (record { first = (c.branches-xs.ensures.low ∙ ap (cofactor_of (position First) c.in-Some.place false c.args.x) (c.node-first.ensures ∙ ap (λ l. node_at l c.args.x) c.nodes.ensures)); second = (c.branches-ys.ensures.low ∙ ap (cofactor_of (position Second) c.in-Some.place false c.args.y) (c.node-second.ensures ∙ ap (λ l. node_at l c.args.y) c.nodes-2.ensures)) })
    c.compose.new.scratch (known c.compose.new.results) (known c.compose.new.joins) c.in_ok-low.low c.in_ok-low.ensures
    c.branches-xs.result.1 c.branches-ys.result.1 (record { first = (c.branches-xs.ensures.high ∙ ap (cofactor_of (position First) c.in-Some.place true c.args.x) (c.node-first.ensures ∙ ap (λ l. node_at l c.args.x) c.nodes.ensures)); second = (c.branches-ys.ensures.high ∙ ap (cofactor_of (position Second) c.in-Some.place true c.args.y) (c.node-second.ensures ∙ ap (λ l. node_at l c.args.y) c.nodes-2.ensures)) })
    c.compose-2.new.scratch (known c.compose-2.new.results) (known c.compose-2.new.joins) c.in_ok-high.high c.in_ok-high.ensures
    c.join.new.scratch c.in_ok-result.ensures.reduced c.in_ok-result.ensures.keeps c.in_ok-result.result c.in_ok-result.ensures.stands
    (known c.join.new.joins) c.in_ok-result.ensures.joins (known c.insert.new.self) c.in_ok-insert.ensures.ok
