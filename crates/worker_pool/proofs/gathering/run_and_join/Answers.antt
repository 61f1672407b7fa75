use Rattle.std.proofs.Common.{◌-◌, refl, sym, ◌∙◌, subst, length}
use Rattle.std.specs.Prelude.{Some}
use Rattle.std.specs.Option.{IsSomeAnd}
use Rattle.std.proofs.lemmas.List.Elements.{All-pop}
use Rattle.worker_pool.specs.Errands.{IsDone}
use Rattle.worker_pool.proofs.ErrandLemmas.{all_done, first_done, last_first, one_claim, count_first, below}
use Rattle.worker_pool.proofs.gathering.run_and_join.Goals as goal

pub unreachable-requires-in_default-take : goal.unreachable-requires-in_default-take
unreachable-requires-in_default-take g c =
    let popped = All-pop (λ e. IsSomeAnd e.pass (IsDone c.args.lock.now c.args.workers)) c.run_all.new.errands c.in-Some.rest.now (Some c.in-Some.last.now) c.in-Some.ensures.cases.0 (all_done (λ e. e.pass) c.args.lock.now c.args.workers c.args.errands.now c.run_all.new.errands c.run_all.ensures.len c.requires.fresh c.run_all.ensures.ran) in
    subst (λ o. IsSomeAnd o (IsDone c.args.lock.now c.args.workers)) (sym c.take.ensures.value ∙ c.in_default-take.is) popped.1

pub join_rest-requires-clause-first : goal.join_rest-requires-clause-first
join_rest-requires-clause-first g c =
    let popped = All-pop (λ e. IsSomeAnd e.pass (IsDone c.args.lock.now c.args.workers)) c.run_all.new.errands c.in-Some.rest.now (Some c.in-Some.last.now) c.in-Some.ensures.cases.0 (all_done (λ e. e.pass) c.args.lock.now c.args.workers c.args.errands.now c.run_all.new.errands c.run_all.ensures.len c.requires.fresh c.run_all.ensures.ran) in
    let p = c.in-Some-take.first in
    let done = subst (λ o. IsSomeAnd o (IsDone c.args.lock.now c.args.workers)) (sym c.take.ensures.value ∙ c.in-Some-take.is) popped.1 in
    let base = c.requires.first.0 in
    let first = last_first (λ e. e.pass) base c.args.workers c.run_all.new.errands c.in-Some.rest.now c.in-Some.last.now p c.in-Some.ensures.cases.0 c.in-Some.ensures.cases.1 (c.run_all.ensures.len ∙ c.requires.len.0)
    (first_done (λ e. e.pass) c.args.lock.now c.args.workers c.args.errands.now c.run_all.new.errands base (c.args.workers - 1) (below c.args.workers (length c.args.errands.now) c.requires.len.0 c.requires.len.1) c.requires.first.1 c.run_all.ensures.ran)
    (sym c.take.ensures.value ∙ c.in-Some-take.is) in (
      first.number,
      record {
        of = done.of;
        counted = refl;
        claims = one_claim p.seat.me.0.claims p.number c.args.workers (p.is.counts ∙ done.joined) p.is.names done.seat done.own;
      },
    )

pub join_rest-requires-clause-count : goal.join_rest-requires-clause-count
join_rest-requires-clause-count g c =
    let popped = All-pop (λ e. IsSomeAnd e.pass (IsDone c.args.lock.now c.args.workers)) c.run_all.new.errands c.in-Some.rest.now (Some c.in-Some.last.now) c.in-Some.ensures.cases.0 (all_done (λ e. e.pass) c.args.lock.now c.args.workers c.args.errands.now c.run_all.new.errands c.run_all.ensures.len c.requires.fresh c.run_all.ensures.ran) in
    let done = subst (λ o. IsSomeAnd o (IsDone c.args.lock.now c.args.workers)) (sym c.take.ensures.value ∙ c.in-Some-take.is) popped.1 in
    count_first c.in-Some-take.first.joined (length c.in-Some.rest.now) (length c.run_all.new.errands) c.args.workers done.joined c.in-Some.ensures.cases.1 (c.run_all.ensures.len ∙ c.requires.len.0)

pub join_rest-requires-clause-done : goal.join_rest-requires-clause-done
join_rest-requires-clause-done g c =
    (All-pop (λ e. IsSomeAnd e.pass (IsDone c.args.lock.now c.args.workers)) c.run_all.new.errands c.in-Some.rest.now (Some c.in-Some.last.now) c.in-Some.ensures.cases.0 (all_done (λ e. e.pass) c.args.lock.now c.args.workers c.args.errands.now c.run_all.new.errands c.run_all.ensures.len c.requires.fresh c.run_all.ensures.ran)).0

pub returns-clause-first : goal.returns-clause-first
returns-clause-first g c = λ base given.
    let p = c.in-Some-take.first in
    let first = last_first (λ e. e.pass) base c.args.workers c.run_all.new.errands c.in-Some.rest.now c.in-Some.last.now p c.in-Some.ensures.cases.0 c.in-Some.ensures.cases.1 (c.run_all.ensures.len ∙ c.requires.len.0)
    (first_done (λ e. e.pass) c.args.lock.now c.args.workers c.args.errands.now c.run_all.new.errands base (c.args.workers - 1) (below c.args.workers (length c.args.errands.now) c.requires.len.0 c.requires.len.1) given c.run_all.ensures.ran)
    (sym c.take.ensures.value ∙ c.in-Some-take.is) in
    let end = c.join_rest.ensures.first in
    record { number = end.0; made = end.1 ∙ first.made; based = end.2 ∙ first.based }
