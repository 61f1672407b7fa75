use Rattle.std.proofs.Common.{◌≡◌, true, [], ◌∷◌, ◌++◌, length, sym, ap, ap₂, ◌∙◌, subst, arith}
use Rattle.std.proofs.lemmas.List.{map_push, length_push}
use Rattle.rule_reader.specs.TreeReads.{HasFaults, is_sound}
use Rattle.rule_reader.proofs.CallerLemmas.{values_faults, sound_both}
use Rattle.boolean_programs.specs.declared.statement.Choice.{Choice}
use Rattle.program_forms.specs.Programs.{choice_of}
use Rattle.program_statements.proofs.PartLemmas.{choice_known}
use Rattle.program_statements.proofs.choices.ChoicesRead.add.Goals as goal

pub returns : goal.returns
returns c = λ names done v h k.
    let before = c.args.self.now in
    record {
      faults = subst (HasFaults _ _ _) (sym c.or-self.ensures) (values_faults names done v before.faults c.args.read.faults h.faults k.faults);
      count =
          let n = h.count in
          let m = length_push before.choices.items c.in_ok-choice.choice in
          let k = length_push done v in
          let e = ap length c.in_ok-push.ensures.items in
          omega (arith, n, m, k, e);
      values = λ sound.
          let both = sound_both before.faults c.args.read.faults (subst (λ f. is_sound f ≡ true) c.or-self.ensures sound) in
          c.in_ok-push.ensures.items
          ∙ ap₂ (λ l (x : Choice). l ++ x ∷ []) (h.values both.0) (c.in_ok-choice.ensures ∙ choice_known names v c.args.read.value (k.value both.1))
          ∙ sym (map_push (choice_of names) done v);
    }
