use Rattle.std.proofs.Common.{map, ap, sym, subst, ◌∙◌}
use Rattle.document_forms.specs.Lawful.{IsAction}
use Rattle.relation_weights.specs.Actions.{AreTargets}
use Rattle.document_systems.specs.RelationWeights.{target_of}
use Rattle.document_systems.proofs.ActionLemmas.{are_targets}
use Rattle.document_systems.proofs.relations.action_from.Goals as goal

pub assign-requires : goal.assign-requires
assign-requires c =
    let n = c.args.relations.now in
    let texts = c.in-Assign.texts in
    let is = c.deref.ensures.value ∙ c.in_ok-targets-in-Assign.ensures ∙ ap (map target_of) c.as_slice-in-Assign.ensures in
    subst (AreTargets n) (sym is) (are_targets n texts (subst (IsAction n) c.in-Assign.is c.requires))
