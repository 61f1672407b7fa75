use Rattle.std.proofs.Common.{◌≤◌, All, List, sym, subst, ◌∙◌}
use Rattle.config_patterns.specs.declared.edge.Edge.{Edge}
use Rattle.pattern_openings.proofs.EdgeLemmas.{edges_few}
use Rattle.wpds_base.specs.Limits.{most_items}
use Rattle.pattern_openings.proofs.StateLemmas.{finals_few}
use Rattle.pattern_openings.proofs.opening.opening_of.Goals as goal

pub places_of_edges-requires-clause-states : goal.places_of_edges-requires-clause-states
places_of_edges-requires-clause-states c =
    let P : List Edge → Type 0 = All (λ (e : Edge). (e.from ≤ 1000) × (e.to ≤ 1000)) in
    subst P (sym (c.as_slice.ensures ∙ c.in_ok-edges.ensures)) (edges_few c.args.pattern.now.items c.control.ensures.valid.few_items)

pub states_of-requires-clause-states : goal.states_of-requires-clause-states
states_of-requires-clause-states c =
    finals_few c.args.pattern.now.items most_items c.deref.result.now c.control.ensures.valid.few_items (c.deref.ensures.value ∙ c.in_ok-finals.ensures)
