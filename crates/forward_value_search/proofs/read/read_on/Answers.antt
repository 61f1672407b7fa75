use Rattle.std.proofs.Common.{◌≡◌, ◌∙◌, ℕ, suc, ◌+◌, ◌-◌, ◌≤◌, length, drop, refl, sym, ap, subst, arith}
use Rattle.config_patterns.specs.Membership.{has_symbol}
use Rattle.forward_value_search.specs.Search.{HasSums, HasRead}
use Rattle.forward_value_search.proofs.OnwardLemmas.{onward_itself, onward_then}
use Rattle.forward_value_search.proofs.ReadLemmas.{Reaches, edge_here, reaches_next, leads_so_far, leads_to_last, leads_by_all, read_later}
use Rattle.forward_value_search.proofs.read.read_on.Goals as goal

pub items-init : goal.items-init
items-init g c =
    let i = c.args.row.to in
    let none : 0 ≡ i - i = omega arith in (
      onward_itself c.semiring-semiring.ensures.valid (g.S.Semiring.laws c.args.system.now.semiring) c.args.first.now c.args.tables.now c.requires.ready,
      refl,
      λ k h low. absurd (omega (arith, low)),
      subst (Reaches (drop i c.args.first.now.items)) none tt,
    )

pub read_set-requires-clause-ready : goal.read_set-requires-clause-ready
read_set-requires-clause-ready g c = c.items.invariant.0.ready

pub read_set-requires-clause-hand : goal.read_set-requires-clause-hand
read_set-requires-clause-hand g c = subst (HasSums g.S.Semiring.operations c.args.system.now c.args.first.now c.args.row) (sym c.items.invariant.1) c.requires.hand

pub read_set-requires-clause-edges : goal.read_set-requires-clause-edges
read_set-requires-clause-edges g c = λ h has.
    let x = c.item-item.result.now in
    let low : c.args.row.to ≤ c.items.j = omega arith in
    edge_here c.args.first.now.items c.args.row.to c.items.j low x c.item-item.ensures.item c.items.invariant.3 h has

pub returns-then-not-item-clause-onward : goal.returns-then-not-item-clause-onward
returns-then-not-item-clause-onward g c =
    onward_then c.semiring-semiring.ensures.valid (g.S.Semiring.laws c.args.system.now.semiring) c.args.first.now c.args.tables.now c.items.tables c.read_set.new.tables c.requires.ready c.items.invariant.0 c.in_ok-read_set.ensures.onward

pub returns-then-not-item-clause-read : goal.returns-then-not-item-clause-read
returns-then-not-item-clause-read g c =
    let valid = c.semiring-semiring.ensures.valid in
    let laws = g.S.Semiring.laws c.args.system.now.semiring in
    let x = c.item-item.result.now in
    let i = c.args.row.to in
    let inv = c.items.invariant in
    let now = c.items.tables in
    let new = c.read_set.new.tables in
    let hand = c.args.tables.now.hand in
    let low : i ≤ c.items.j = omega arith in
    let P : ℕ → ℕ → Type 0 = λ h to. HasRead g.S.Semiring.operations c.args.system.now c.args.first.now new c.args.row h to hand in
    let Q = λ (h : ℕ) (w : _). HasRead g.S.Semiring.operations c.args.system.now c.args.first.now new c.args.row h (c.items.j + 1) w in
    leads_to_last c.args.first.now.items i c.items.j low x c.item-item.ensures.item inv.3 P
    (λ k h less leads. read_later valid laws c.args.first.now now new inv.0.ready c.in_ok-read_set.ensures.onward c.args.row h (suc (i + k)) hand c.requires.ready.hand (inv.2 k h less leads))
    (λ h has. subst (Q h) inv.1 (c.in_ok-read_set.ensures.read h has)) c.if-not-item.true

pub items-preserved : goal.items-preserved
items-preserved g c =
    let valid = c.semiring-semiring.ensures.valid in
    let laws = g.S.Semiring.laws c.args.system.now.semiring in
    let x = c.item-item.result.now in
    let i = c.args.row.to in
    let inv = c.items.invariant in
    let now = c.items.tables in
    let new = c.read_set.new.tables in
    let hand = c.args.tables.now.hand in
    let low : i ≤ c.items.j = omega arith in
    let P : ℕ → ℕ → Type 0 = λ h to. HasRead g.S.Semiring.operations c.args.system.now c.args.first.now new c.args.row h to hand in
    let Q = λ (h : ℕ) (w : _). HasRead g.S.Semiring.operations c.args.system.now c.args.first.now new c.args.row h (c.items.j + 1) w in (
      onward_then valid laws c.args.first.now c.args.tables.now now new c.requires.ready inv.0 c.in_ok-read_set.ensures.onward,
      c.in_ok-read_set.ensures.hand ∙ inv.1,
      leads_so_far c.args.first.now.items i c.items.j low x c.item-item.ensures.item inv.3 P
          (λ k h less leads. read_later valid laws c.args.first.now now new inv.0.ready c.in_ok-read_set.ensures.onward c.args.row h (suc (i + k)) hand c.requires.ready.hand (inv.2 k h less leads))
          (λ h has. subst (Q h) inv.1 (c.in_ok-read_set.ensures.read h has)),
      reaches_next c.args.first.now.items i c.items.j low x c.item-item.ensures.item inv.3 c.if-not-item.false,
    )

pub returns-clause-onward : goal.returns-clause-onward
returns-clause-onward g c = c.items.invariant.0

pub returns-clause-read : goal.returns-clause-read
returns-clause-read g c =
    let all : length c.args.first.now.items ≤ c.items.j = omega arith in
    let P : ℕ → ℕ → Type 0 = λ h to. HasRead g.S.Semiring.operations c.args.system.now c.args.first.now c.items.tables c.args.row h to c.args.tables.now.hand in
    leads_by_all c.args.first.now.items c.args.row.to c.items.j all P c.items.invariant.2
