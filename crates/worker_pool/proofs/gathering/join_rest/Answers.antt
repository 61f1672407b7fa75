use Rattle.std.proofs.Common.{◌<◌, refl, sym, ap, ◌∙◌, subst, arith}
use Rattle.std.specs.Option.{IsSomeAnd}
use Rattle.std.proofs.lemmas.List.{get_or-set_other, length-set}
use Rattle.seat_lock.specs.Queue.{Each}
use Rattle.seat_lock.proofs.CallerLemmas.{each-append}
use Rattle.worker_pool.specs.Errands.{IsDone, IsDrivenBy}
use Rattle.worker_pool.proofs.ErrandLemmas.{one_claim}
use Rattle.worker_pool.proofs.gathering.join_rest.Goals as goal

pub unreachable-requires : goal.unreachable-requires
unreachable-requires g c =
    let done = c.loop-errand.invariant.5 c.loop-errand.errand-index c.errand-item.result (omega arith) (subst (λ n. c.loop-errand.errand-index < n) (sym c.loop-errand.auto.errand-items) c.loop-errand-test.true) in
    subst (λ o. IsSomeAnd o (IsDone c.args.lock.now c.args.workers)) (sym c.take.ensures.value ∙ c.in_default.is) done

pub join-first-requires-clause-lock : goal.join-first-requires-clause-lock
join-first-requires-clause-lock g c =
    let done = c.loop-errand.invariant.5 c.loop-errand.errand-index c.errand-item.result (omega arith) (subst (λ n. c.loop-errand.errand-index < n) (sym c.loop-errand.auto.errand-items) c.loop-errand-test.true) in
    let other = subst (λ o. IsSomeAnd o (IsDone c.args.lock.now c.args.workers)) (sym c.take.ensures.value ∙ c.in-Some.is) done in
    (c.loop-errand.invariant.1.of, other.of)

pub loop-errand-preserved : goal.loop-errand-preserved
loop-errand-preserved g c =
    let done = c.loop-errand.invariant.5 c.loop-errand.errand-index c.errand-item.result (omega arith) (subst (λ n. c.loop-errand.errand-index < n) (sym c.loop-errand.auto.errand-items) c.loop-errand-test.true) in
    let other = subst (λ o. IsSomeAnd o (IsDone c.args.lock.now c.args.workers)) (sym c.take.ensures.value ∙ c.in-Some.is) done in
    let i = c.loop-errand.invariant in
    let e = c.join-first.ensures in
    let p = c.in-Some.other in (
      e.pass.1,
      record {
        of = e.pass.0 ∙ i.1.of;
        counted = refl;
        claims = subst (λ v. Each (λ k. (k.0 < c.args.workers) × IsDrivenBy k.0 k.1) v.claims) (sym e.both)
            (each-append (λ k. (k.0 < c.args.workers) × IsDrivenBy k.0 k.1) c.loop-errand.first.seat.me.0.claims p.seat.me.0.claims i.1.claims
            (one_claim p.seat.me.0.claims p.number c.args.workers (p.is.counts ∙ other.joined) p.is.names other.seat other.own));
      },
      (let a = e.pass.3 in let b = other.joined in let d = i.2 in omega arith),
      e.pass.4 ∙ i.3,
      ap (λ v. v.base) e.both ∙ i.4,
      λ k d more within.
          subst (λ x. IsSomeAnd x.pass (IsDone c.args.lock.now c.args.workers)) (sym (get_or-set_other c.loop-errand.errand-items c.loop-errand.errand-index k _ d (λ at. omega (arith, more, at))))
          (i.5 k d (omega (arith, more)) (subst (λ n. k < n) (length-set c.loop-errand.errand-items c.loop-errand.errand-index _) within)),
    )
