use Rattle.std.proofs.Common.{◌*◌, ◌&&◌, ap₂, ◌∙◌}
use Rattle.std.proofs.lemmas.Result.{IfOk-weaker}
use Rattle.diagram_ops.specs.Relations.{of_states, relates}
use Rattle.truth_tables.specs.Formulas.{formula}
use Rattle.relation_weights.specs.Actions.{assumed}
use Rattle.relation_weights.proofs.DiagramLemmas.{both}
use Rattle.relation_weights.proofs.ActionLemmas.{frame_none}
use Rattle.relation_weights.proofs.actions.assumed.Goals as goal

pub returns : goal.returns
returns c =
    IfOk-weaker c.new.result _ _ (λ w h. h c.args.n (assumed c.args.n (formula c.args.e.now))
    (c.in_ok-made.ensures.variables (2 * c.args.n) c.in_ok-holds.ensures.variables c.in_ok-stay.ensures.variables)
    (λ x y.
    c.in_ok-made.ensures.value (of_states x y)
    ∙ both (relates c.in_ok-holds.holds x y) (relates c.in_ok-stay.stay x y)
    ∙ ap₂ (λ s t. s && t) (c.in_ok-holds.ensures.value x y) (c.in_ok-stay.ensures.pairs x y ∙ frame_none c.args.n x y))) c.new.ensures
