use Rattle.std.proofs.Common.{◌≡◌, ◌+◌, get_or, sym, ap, ◌∙◌, subst}
use Rattle.std.specs.Prelude.{Some, slice_get}
use Rattle.std.proofs.lemmas.Option.{slice_get-get_or}
use Rattle.pushdown_rules.specs.RunValue.{Machine, FitsMachine, machine_after}
use Rattle.relation_laws.specs.Building.{Parts}
use Rattle.relation_weights.specs.declared.rel_map.RelMap.{RelMap}
use Rattle.relation_weights.specs.Relations.{relation_operations}
use Rattle.run_settings.specs.private.Walks.{machine_at, IsPast, ArePast}
use Rattle.run_settings.proofs.WalkLemmas.{machine_next, machine_fits, past_push}
use Rattle.run_settings.proofs.walk.walk.Goals as goal

pub past-requires : goal.past-requires
past-requires c =
    let p = c.args.system.now in
    let fits = machine_fits p c.args.run.now c.semiring-relations.ensures.valid c.loop-k.k-index in
    subst (λ k. FitsMachine (relation_operations k) c.loop-k.machine) (sym c.semiring-relations.ensures.value)
    (subst (FitsMachine (relation_operations p.semiring)) (sym c.loop-k.invariant.machine) fits)

pub step-requires-clause-machine : goal.step-requires-clause-machine
step-requires-clause-machine c =
    let p = c.args.system.now in
    let fits = machine_fits p c.args.run.now c.semiring-relations.ensures.valid c.loop-k.k-index in
    subst (λ k. FitsMachine (relation_operations k) c.loop-k.machine) (sym c.semiring-relations.ensures.value)
    (subst (FitsMachine (relation_operations p.semiring)) (sym c.loop-k.invariant.machine) fits)

pub loop-k-preserved : goal.loop-k-preserved
loop-k-preserved c =
    let p = c.args.system.now in
    let run = c.args.run.now in
    let i = c.loop-k.k-index in
    let rule = c.rule.result.now in
    let at : slice_get run i ≡ Some (get_or run i 0) = slice_get-get_or run i 0 c.loop-k-test.true in
    let kept : IsPast (machine_at p run i) c.in_ok-past.field-0 = subst (λ (m : Machine Parts RelMap). IsPast m c.in_ok-past.field-0) c.loop-k.invariant.machine c.in_ok-past.ensures in record {
      machine =
          c.in_ok-step.ensures
          ∙ ap (λ k. machine_after (relation_operations k) rule c.loop-k.machine) c.semiring-relations.ensures.value
          ∙ ap (machine_after (relation_operations p.semiring) rule) c.loop-k.invariant.machine
          ∙ sym (machine_next p run i (get_or run i 0) rule at c.rule.ensures.rule);
      past = subst (ArePast p run (i + 1)) (sym c.in_ok-push.ensures.items) (past_push p run i c.loop-k.past.items c.in_ok-past.field-0 c.loop-k.invariant.past kept);
    }
