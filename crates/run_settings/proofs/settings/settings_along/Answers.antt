use Rattle.std.proofs.Common.{length, refl, sym, ap, ◌∙◌, subst}
use Rattle.std.proofs.lemmas.Bool.{false≢true}
use Rattle.pushdown_rules.specs.RunValue.{FitsMachine}
use Rattle.pushdown_rules.specs.InSystem.{value_in, zero_in}
use Rattle.pushdown_rules.proofs.CallerLemmas.{value_fits}
use Rattle.relation_laws.specs.Building.{Parts}
use Rattle.relation_laws.specs.Relations.{leads}
use Rattle.relation_weights.specs.Relations.{relation_operations}
use Rattle.relation_weights.specs.RelationLaws.{relation_laws}
use Rattle.run_settings.specs.private.Walks.{machine_at}
use Rattle.run_settings.proofs.WalkLemmas.{machine_fits, value_made}
use Rattle.run_settings.proofs.settings.settings_along.Goals as goal

pub settings_at_end-requires-clause-machine : goal.settings_at_end-requires-clause-machine
settings_at_end-requires-clause-machine c =
    let p = c.args.system.now in
    let run = c.args.run.now in
    subst (FitsMachine (relation_operations c.args.n)) (sym c.in_ok-walked.ensures.machine)
    (subst (λ k. FitsMachine (relation_operations k) (machine_at p run (length run))) c.requires.n (machine_fits p run c.semiring.ensures.valid (length run)))

pub returns-in-None-clause-none : goal.returns-in-None-clause-none
returns-in-None-clause-none c =
    let p = c.args.system.now in
    let run = c.args.run.now in
    let n = c.args.n in
    let none = rw c.in-None.is at c.in_ok-end.ensures.linked in
    let law = c.weights_are_sets_of_pairs.ensures in
    let value = value_made p run n c.requires.n c.in_ok-walked.walked.machine c.in_ok-walked.ensures.machine in (
      λ _. law.equal p.semiring (value_in relation_operations p run) (zero_in relation_operations p)
          (value_fits c.semiring.ensures.valid (relation_laws p.semiring) run) ((relation_laws p.semiring).fits-zero)
          (λ x y. ap (λ (w : Parts). leads w x y) (sym value) ∙ none x y ∙ sym (law.zero p.semiring x y)),
      λ _. refl,
    )

pub returns-in_ok-settings-in-Some-clause-none : goal.returns-in_ok-settings-in-Some-clause-none
returns-in_ok-settings-in-Some-clause-none c =
    let p = c.args.system.now in
    let run = c.args.run.now in
    let n = c.args.n in
    let some = rw c.in-Some.is at c.in_ok-end.ensures.some in
    let law = c.weights_are_sets_of_pairs.ensures in
    let value = value_made p run n c.requires.n c.in_ok-walked.walked.machine c.in_ok-walked.ensures.machine in (
      λ e. cc,
      λ e. absurd (false≢true (sym (law.zero p.semiring some.0 some.1) ∙ ap (λ (w : Parts). leads w some.0 some.1) (sym (value ∙ e)) ∙ some.2)),
    )
