use Rattle.std.proofs.Common.{sym, ap, ◌∙◌, arith}
use Rattle.std.specs.Prelude.{option_and_then}
use Rattle.diagram_store.specs.private.Turns.{in_turn, turn_after}
use Rattle.diagram_store.proofs.NodeLemmas.{node_within}
use Rattle.diagram_store.proofs.TurnLemmas.{turn_below, turn_by_branches, turn_nowhere}
use Rattle.diagram_store.proofs.form.+turn_after.Goals as goal

pub returns-then-reference-turn : goal.returns-then-reference-turn
returns-then-reference-turn t c = sym (turn_below c.args.nodes.now c.args.reference c.args.turn c.args.reference c.if-reference-turn.true)

pub in_turn-requires : goal.in_turn-requires
in_turn-requires t c = let w = node_within c.args.nodes.now c.args.reference c.in-Some.found (sym c.node.ensures ∙ c.in-Some.is) in omega (arith, w.1)

pub returns-in-Some-turn_after : goal.returns-in-Some-turn_after
returns-in-Some-turn_after t c =
    c.in_turn.ensures
    ∙ ap (option_and_then (in_turn c.args.reference))
    (c.turn_after-in-Some-turn_after.ensures
    ∙ ap (option_and_then (λ m. turn_after c.args.nodes.now c.in-Some.found.high m c.in-Some.found.high)) (sym c.in-Some-turn_after.is ∙ c.turn_after.ensures))
    ∙ sym (turn_by_branches c.args.nodes.now c.requires c.args.turn c.args.reference c.in-Some.found c.if-reference-turn.false (sym c.node.ensures ∙ c.in-Some.is))

pub returns-in-None-turn_after : goal.returns-in-None-turn_after
returns-in-None-turn_after t c =
    ap (λ o. option_and_then (in_turn c.args.reference) (option_and_then (λ m. turn_after c.args.nodes.now c.in-Some.found.high m c.in-Some.found.high) o))
    (sym c.in-None-turn_after.is ∙ c.turn_after.ensures)
    ∙ sym (turn_by_branches c.args.nodes.now c.requires c.args.turn c.args.reference c.in-Some.found c.if-reference-turn.false (sym c.node.ensures ∙ c.in-Some.is))

pub returns-in-None : goal.returns-in-None
returns-in-None t c = sym (turn_nowhere c.args.nodes.now c.args.turn c.args.reference c.if-reference-turn.false (sym c.node.ensures ∙ c.in-None.is))
