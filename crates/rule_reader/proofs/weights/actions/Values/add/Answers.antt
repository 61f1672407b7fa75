use Rattle.std.proofs.Common.{◌≡◌, ◌≤◌, ◌<◌, ℕ, true, List, ◌∷◌, [], ◌++◌, length, get_or, sym, ap, ap₂, ◌∙◌, subst, arith, length-append}
use Rattle.std.proofs.lemmas.Bool.{le-ltb, lt-ltb}
use Rattle.document_forms.specs.declared.weight.Assignment.{Assignment}
use Rattle.rule_reader.specs.TreeReads.{is_sound}
use Rattle.rule_reader.specs.TreeReads.{HasFaults}
use Rattle.rule_reader.proofs.ActionLemmas.{values_faults, sound_both, assigned_more, assigned_full, count_below, count_full}
use Rattle.rule_reader.proofs.weights.actions.Values.add.Goals as goal

pub returns-in_ok-push : goal.returns-in_ok-push
returns-in_ok-push c = λ items done v h k.
    let ts : List ℕ = c.args.targets.now in
    let before = c.args.self.now in
    let size : length before.assignments.items < length ts = omega (arith, before.assignments.ok.0) in
    let below = count_below (length ts) (length done) (length before.assignments.items) h.count size in
    let longer = length-append done (v ∷ []) in
    let place : c.len-place.result ≡ length done = omega (arith, before.assignments.ok.0, below.1) in
    record {
      faults = subst (HasFaults _ _ _) (sym c.or-self.ensures) (values_faults items done v before.faults c.args.value.faults h.faults k.faults);
      more = h.more ∙ le-ltb (length ts) (length done) (omega (arith, below.0)) ∙ sym (le-ltb (length ts) (length (done ++ v ∷ [])) (omega (arith, below.0)));
      count = omega (arith, ap length c.in_ok-push.ensures.items, ap length c.in_ok-make_room.ensures, length-append {A = Assignment}, below.0, below.1);
      values = λ sound.
          let both = sound_both before.faults c.args.value.faults (subst (λ f. is_sound f ≡ true) c.or-self.ensures sound) in
          c.in_ok-push.ensures.items
          ∙ ap₂ (λ l (x : Assignment). l ++ x ∷ []) (c.in_ok-make_room.ensures ∙ h.values both.0) (ap₂ (λ n w. record { variable = n; value = w }) (ap (λ n. get_or ts n 0) place) (k.value both.1))
          ∙ sym (assigned_more items ts done v below.0);
    }

pub returns-else-place-targets : goal.returns-else-place-targets
returns-else-place-targets c = λ items done v h k.
    let ts : List ℕ = c.args.targets.now in
    let before = c.args.self.now in
    let size : length ts ≤ length before.assignments.items = omega (arith, before.assignments.ok.0) in
    let full = count_full (length ts) (length done) (length before.assignments.items) h.count size in
    let longer = length-append done (v ∷ []) in
    record {
      faults = subst (HasFaults _ _ _) (sym c.or-self.ensures) (values_faults items done v before.faults c.args.value.faults h.faults k.faults);
      more = sym (lt-ltb (length ts) (length (done ++ v ∷ [])) (omega arith));
      count = omega arith;
      values = λ sound.
          let both = sound_both before.faults c.args.value.faults (subst (λ f. is_sound f ≡ true) c.or-self.ensures sound) in
          h.values both.0 ∙ sym (assigned_full items ts done v full);
    }
