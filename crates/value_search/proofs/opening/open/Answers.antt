use Rattle.std.proofs.Common.{◌≡◌, [], ◌∙◌, arith, below_more}
use Rattle.std.specs.Prelude.{None, Some, slice_get}
use Rattle.semiring_laws.specs.Semiring.{Below}
use Rattle.pushdown_rules.specs.declared.rule.Rule.{Rule}
use Rattle.pushdown_rules.proofs.CallerLemmas.{weight_fits}
use Rattle.value_search.specs.Views.{weights}
use Rattle.value_search.specs.Finds.{FindsPops}
use Rattle.value_search.proofs.OnwardLemmas.{onward_itself, onward_then, others_target, others_walk}
use Rattle.value_search.proofs.OpeningLemmas.{below_later, pops_begin, renewed_base, renewed_search}
use Rattle.value_search.proofs.TakeLemmas.{subst_system}
use Rattle.value_search.proofs.opening.open.Goals as goal

pub loop-k-init : goal.loop-k-init
loop-k-init g c =
    let p = c.system-system.result.now in
    let law = g.S.Semiring.laws p.semiring in
    let valid = c.system-system.ensures.valid in
    let e = c.renew.new.self in
    let is = renewed_base g.S.Semiring.operations p c.args.tables.now e c.system-system.ensures.value c.renew.ensures in (
      onward_itself valid law None e (renewed_search valid law e is.0 is.1 c.valid.ensures.tables),
      λ k low. absurd (omega (arith, low)),
    )

pub open_rule-requires-clause-search : goal.open_rule-requires-clause-search
open_rule-requires-clause-search g c = c.loop-k.invariant.0.search

pub loop-k-preserved : goal.loop-k-preserved
loop-k-preserved g c =
    let p = c.system-system.result.now in
    let s = g.S.Semiring.operations p.semiring in
    let law = g.S.Semiring.laws p.semiring in
    let valid = c.system-system.ensures.valid in
    let e = c.renew.new.self in
    let is = renewed_base g.S.Semiring.operations p c.args.tables.now e c.system-system.ensures.value c.renew.ensures in
    let was = c.loop-k.invariant.0 in
    let step = c.in_ok-open_rule.ensures.onward in
    let new = c.open_rule.new.tables in (
      onward_then valid law None e c.loop-k.tables new (renewed_search valid law e is.0 is.1 c.valid.ensures.tables) was step,
      below_more (λ k. (r : Rule g.row.S.Denot g.row.S-W.Denot g.row.S-Ret.Denot) → slice_get p.rules k ≡ Some r → r.right ≡ [] → Below s (weights s new.base r.control r.symbol r.to) r.weight) c.loop-k.k
          (λ k low r there right. below_later valid law None c.loop-k.tables new was.search step r.control r.symbol r.to r.weight (weight_fits valid law k r there) (c.loop-k.invariant.1 k low r there right))
          c.in_ok-open_rule.ensures.given,
    )

pub returns-clause-system : goal.returns-clause-system
returns-clause-system g c = c.loop-k.invariant.0.search.same ∙ c.system-system.ensures.value

pub returns-clause-finds : goal.returns-clause-finds
returns-clause-finds g c =
    let p = c.system-system.result.now in
    let law = g.S.Semiring.laws p.semiring in
    let valid = c.system-system.ensures.valid in
    let e = c.renew.new.self in
    let new = c.loop-k.tables in
    let is = renewed_base g.S.Semiring.operations p c.args.tables.now e c.system-system.ensures.value c.renew.ensures in
    subst_system p c.args.tables.now.system c.system-system.ensures.value (λ q. FindsPops (g.S.Semiring.operations q.semiring) q new)
    (pops_begin valid law e new is.1 c.loop-k.invariant.0 c.loop-k.k (omega (arith, c.loop-k-test.false, c.rules-k-end.ensures.value)) c.loop-k.invariant.1)

pub returns-clause-target : goal.returns-clause-target
returns-clause-target g c =
    let p = c.system-system.result.now in
    let e = c.renew.new.self in
    let new = c.loop-k.tables in
    let is = renewed_base g.S.Semiring.operations p c.args.tables.now e c.system-system.ensures.value c.renew.ensures in
    others_target new.hand new.base e new c.loop-k.invariant.0.others ∙ is.2

pub returns-clause-walk : goal.returns-clause-walk
returns-clause-walk g c =
    let p = c.system-system.result.now in
    let e = c.renew.new.self in
    let new = c.loop-k.tables in
    let is = renewed_base g.S.Semiring.operations p c.args.tables.now e c.system-system.ensures.value c.renew.ensures in
    others_walk None new.hand new.base e new c.loop-k.invariant.0.others ∙ is.3
