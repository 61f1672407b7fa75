use Rattle.std.proofs.Common.{◌≡◌, true, false, not, ◌||◌, length, map, sym, ap, ap₂, ◌∙◌, subst, refl}
use Rattle.std.specs.Prelude.{zip, flat_map, ◌==◌}
use Rattle.document_forms.specs.declared.weight.Action.TheVariants.{Assign}
use Rattle.document_forms.specs.Names.{is_among, has_unknown}
use Rattle.document_forms.specs.Weights.{AssignForm}
use Rattle.document_forms.specs.Kinds.{value_names, is_uneven}
use Rattle.rule_reader.specs.declared.weights.WeightFaults.{WeightFaults}
use Rattle.rule_reader.specs.TreeReads.{either}
use Rattle.rule_reader.specs.TreeReads.{is_sound}
use Rattle.rule_reader.specs.TreeReads.{HasFaults}
use Rattle.rule_reader.specs.private.ActionReads.{HasValues, assigned}
use Rattle.std.proofs.lemmas.List.Folds.{list_any-append}
use Rattle.rule_reader.proofs.TreeLemmas.{sound_parts}
use Rattle.rule_reader.proofs.ActionLemmas.{either_faults, told_as, sound_both, by_names}
use Rattle.rule_reader.proofs.weights.actions.assignment.Goals as goal

pub returns : goal.returns
returns c = λ items xs vs t h.
    let targets = c.args.targets in
    let values = c.args.values in
    let own : WeightFaults = record {
      unknown = targets.variables.unknown;
      unlawful = c.is_uneven.result || targets.names.twice;
      deep = false;
    } in
    let unlike : c.is_uneven.result ≡ not (length xs == length vs) =
    c.is_uneven.ensures items vs (subst (λ ts. HasValues items ts vs values) (sym c.deref.ensures.value) h)
    ∙ ap (λ ts. not (length ts == length vs)) c.deref.ensures.value
    ∙ ap (λ n. not (n == length vs)) t.variables.count in
    let own_faults : HasFaults (has_unknown items xs) (is_uneven (AssignForm xs vs)) false own = record {
      unknown = t.variables.unknown;
      unlawful = ap₂ (λ a b. a || b) unlike t.names.twice;
      deep = λ _. refl;
    } in
    record {
      faults = subst (HasFaults _ _ _) (sym c.or.ensures)
          (told_as _ _ _ _ _ _ (either own values.faults)
          (sym (list_any-append (λ x. not (is_among items x)) xs (flat_map value_names vs))) refl refl
          (either_faults _ _ _ _ _ _ own values.faults own_faults h.faults));
      value = λ sound.
          let both = sound_both own values.faults (subst (λ f. is_sound f ≡ true) c.or.ensures sound) in
          ap Assign
          (c.from_vec.ensures
          ∙ h.values both.1
          ∙ ap (λ ts. map (assigned items) (zip ts vs)) (t.variables.numbers (sound_parts own both.0).0)
          ∙ by_names items xs vs);
    }
