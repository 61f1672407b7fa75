use Rattle.std.proofs.Common.{ℕ, suc, sym, inl, inr, arith}
use Rattle.std.specs.Prelude.{Some}
use Rattle.semiring_laws.specs.Semiring.{Below}
use Rattle.value_search.specs.Views.{weights}
use Rattle.value_search.specs.Finds.{FindsPops, FindsEnters}
use Rattle.value_search.proofs.OnwardLemmas.{onward_itself, onward_then}
use Rattle.value_search.proofs.EdgeLemmas.{passes_none, passes_on}
use Rattle.value_search.proofs.OpeningLemmas.{aimed_search, below_later, edges_met, enters_begin, item_edges, met_more, renewed_target}
use Rattle.value_search.proofs.TakeLemmas.{subst_system}
use Rattle.value_search.proofs.opening.aim.Goals as goal

pub loop-k-init : goal.loop-k-init
loop-k-init g c =
    let p = c.system-system.result.now in
    let s = g.S.Semiring.operations p.semiring in
    let law = g.S.Semiring.laws p.semiring in
    let valid = c.system-system.ensures.valid in
    let aim = c.args.target.now in
    let items = aim.items in
    let old = c.args.tables.now in
    let first = c.hold_one.new.self in
    let is = renewed_target g.S.Semiring.operations p old c.renew.new.self c.system-system.ensures.value first c.renew.ensures c.in_ok-hold_one.ensures.ok in
    let pops = subst_system old.system p (sym c.system-system.ensures.value) (λ q. FindsPops (g.S.Semiring.operations q.semiring) q old) c.requires in
    let search = aimed_search valid law aim old first pops is.0 is.1 is.2 c.valid.ensures.tables in
    (onward_itself valid law (Some aim) first search, is.4, passes_none items 0, λ h j low _. absurd (omega (arith, low)))

pub open_item-requires-clause-edges : goal.open_item-requires-clause-edges
open_item-requires-clause-edges g c =
    λ x there h is. item_edges c.args.target.now.items c.loop-k.k c.loop-k.invariant.2 x there h is

pub loop-k-preserved : goal.loop-k-preserved
loop-k-preserved g c =
    let p = c.system-system.result.now in
    let s = g.S.Semiring.operations p.semiring in
    let law = g.S.Semiring.laws p.semiring in
    let valid = c.system-system.ensures.valid in
    let aim = c.args.target.now in
    let items = aim.items in
    let old = c.args.tables.now in
    let first = c.hold_one.new.self in
    let is = renewed_target g.S.Semiring.operations p old c.renew.new.self c.system-system.ensures.value first c.renew.ensures c.in_ok-hold_one.ensures.ok in
    let pops = subst_system old.system p (sym c.system-system.ensures.value) (λ q. FindsPops (g.S.Semiring.operations q.semiring) q old) c.requires in
    let search = aimed_search valid law aim old first pops is.0 is.1 is.2 c.valid.ensures.tables in
    let now = c.loop-k.tables in
    let new = c.open_item.new.tables in
    let k = c.loop-k.k in
    let was = c.loop-k.invariant.0 in
    let done = c.in_ok-open_item.ensures in
    let x = c.item-item.result.now in
    let there = c.item-item.ensures.item in
    let later : (h to : ℕ) → Below s (weights s now.target aim.control h to) s.one → Below s (weights s new.target aim.control h to) s.one =
    λ h to below. below_later valid law (Some aim) now new was.search done.onward aim.control h to s.one law.fits-one below in (
      onward_then valid law (Some aim) first now new search was done.onward,
      done.hand,
      passes_on items 0 k c.loop-k.invariant.2 x there c.if-not-item.false,
      met_more items k c.loop-k.invariant.2 x there (λ h to. Below s (weights s now.target aim.control h to) s.one) (λ h to. Below s (weights s new.target aim.control h to) s.one) later c.loop-k.invariant.3
          (done.given x there),
    )

pub returns-then-not-item-clause-finds : goal.returns-then-not-item-clause-finds
returns-then-not-item-clause-finds g c =
    let p = c.system-system.result.now in
    let s = g.S.Semiring.operations p.semiring in
    let law = g.S.Semiring.laws p.semiring in
    let valid = c.system-system.ensures.valid in
    let aim = c.args.target.now in
    let items = aim.items in
    let old = c.args.tables.now in
    let first = c.hold_one.new.self in
    let is = renewed_target g.S.Semiring.operations p old c.renew.new.self c.system-system.ensures.value first c.renew.ensures c.in_ok-hold_one.ensures.ok in
    let pops = subst_system old.system p (sym c.system-system.ensures.value) (λ q. FindsPops (g.S.Semiring.operations q.semiring) q old) c.requires in
    let search = aimed_search valid law aim old first pops is.0 is.1 is.2 c.valid.ensures.tables in
    let now = c.loop-k.tables in
    let new = c.open_item.new.tables in
    let k = c.loop-k.k in
    let was = c.loop-k.invariant.0 in
    let done = c.in_ok-open_item.ensures in
    let x = c.item-item.result.now in
    let there = c.item-item.ensures.item in
    let later : (h to : ℕ) → Below s (weights s now.target aim.control h to) s.one → Below s (weights s new.target aim.control h to) s.one =
    λ h to below. below_later valid law (Some aim) now new was.search done.onward aim.control h to s.one law.fits-one below in
    subst_system p old.system c.system-system.ensures.value (λ q. FindsEnters (g.S.Semiring.operations q.semiring) q aim new)
    (enters_begin valid law aim first new is.2 (onward_then valid law (Some aim) first now new search was done.onward)
    (edges_met items k c.loop-k.invariant.2 (λ h to. Below s (weights s new.target aim.control h to) s.one) (λ h j low leads. later h (suc j) (c.loop-k.invariant.3 h j low leads))
    (inr (x, there, c.if-not-item.true, done.given x there))))

pub returns-clause-finds : goal.returns-clause-finds
returns-clause-finds g c =
    let p = c.system-system.result.now in
    let s = g.S.Semiring.operations p.semiring in
    let law = g.S.Semiring.laws p.semiring in
    let valid = c.system-system.ensures.valid in
    let aim = c.args.target.now in
    let items = aim.items in
    let old = c.args.tables.now in
    let first = c.hold_one.new.self in
    let is = renewed_target g.S.Semiring.operations p old c.renew.new.self c.system-system.ensures.value first c.renew.ensures c.in_ok-hold_one.ensures.ok in
    let pops = subst_system old.system p (sym c.system-system.ensures.value) (λ q. FindsPops (g.S.Semiring.operations q.semiring) q old) c.requires in
    let search = aimed_search valid law aim old first pops is.0 is.1 is.2 c.valid.ensures.tables in
    let now = c.loop-k.tables in
    subst_system p old.system c.system-system.ensures.value (λ q. FindsEnters (g.S.Semiring.operations q.semiring) q aim now)
    (enters_begin valid law aim first now is.2 c.loop-k.invariant.0
    (edges_met items c.loop-k.k c.loop-k.invariant.2 (λ h to. Below s (weights s now.target aim.control h to) s.one) c.loop-k.invariant.3 (inl (omega (arith, c.loop-k-test.false, c.items-k-end.ensures.value)))))
