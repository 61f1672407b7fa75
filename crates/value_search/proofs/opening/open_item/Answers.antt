use Rattle.std.proofs.Common.{◌≡◌, ℕ, ◌+◌, ◌<◌, List, length, get_or, sym, ap, ◌∙◌, subst, arith, below_more}
use Rattle.std.specs.Prelude.{Some}
use Rattle.std.proofs.lemmas.Option.{same_Some, get_or_from_slice_get}
use Rattle.semiring_laws.specs.Semiring.{Below}
use Rattle.wpds_base.specs.Lists.{IsIn}
use Rattle.config_patterns.specs.declared.item.Item.{Item}
use Rattle.value_search.specs.Views.{weights}
use Rattle.value_search.proofs.OnwardLemmas.{onward_itself, onward_then}
use Rattle.value_search.proofs.OpeningLemmas.{below_later, in_there, stands_in}
use Rattle.value_search.proofs.opening.open_item.Goals as goal

pub loop-i-init : goal.loop-i-init
loop-i-init g c =
    let p = c.args.system.now in
    (onward_itself c.semiring-semiring.ensures.valid (g.S.Semiring.laws p.semiring) (Some c.args.target.now) c.args.tables.now c.requires.search, c.requires.hand, λ j low. absurd (omega (arith, low)))

pub open_edge-requires-clause-search : goal.open_edge-requires-clause-search
open_edge-requires-clause-search g c = c.loop-i.invariant.0.search

pub open_edge-requires-clause-hand : goal.open_edge-requires-clause-hand
open_edge-requires-clause-hand g c = c.loop-i.invariant.1

pub open_edge-requires-clause-edge : goal.open_edge-requires-clause-edge
open_edge-requires-clause-edge g c =
    let x = c.item.result.now in
    let low : c.loop-i.i < length x.set = omega arith in
    let P : ℕ → Type 0 = λ h. IsIn h x.set in
    c.requires.edges x c.item.ensures.item c.at.result (subst P (get_or_from_slice_get x.set c.loop-i.i c.at.result 0 c.at.ensures) (in_there x.set c.loop-i.i low))

pub loop-i-preserved : goal.loop-i-preserved
loop-i-preserved g c =
    let p = c.args.system.now in
    let s = g.S.Semiring.operations p.semiring in
    let law = g.S.Semiring.laws p.semiring in
    let valid = c.semiring-semiring.ensures.valid in
    let aim = c.args.target.now in
    let list = c.item.result.now.set in
    let now = c.loop-i.tables in
    let new = c.open_edge.new.tables in
    let was = c.loop-i.invariant.0 in
    let Q : ℕ → Type 0 = λ h. Below s (weights s new.target aim.control h (c.args.k + 1)) s.one in
    let step = c.in_ok-open_edge.ensures.onward in (
      onward_then valid law (Some aim) c.args.tables.now now new c.requires.search was step,
      c.in_ok-open_edge.ensures.hand,
      below_more (λ j. Below s (weights s new.target aim.control (get_or list j 0) (c.args.k + 1)) s.one) c.loop-i.i
          (λ j low. below_later valid law (Some aim) now new was.search step aim.control (get_or list j 0) (c.args.k + 1) s.one law.fits-one (c.loop-i.invariant.2 j low))
          (subst Q (sym (get_or_from_slice_get list c.loop-i.i c.at.result 0 c.at.ensures)) c.in_ok-open_edge.ensures.given),
    )

pub returns-clause-onward : goal.returns-clause-onward
returns-clause-onward g c = c.loop-i.invariant.0

pub returns-clause-hand : goal.returns-clause-hand
returns-clause-hand g c = c.loop-i.invariant.1

pub returns-clause-given : goal.returns-clause-given
returns-clause-given g c = λ y there h is.
    let p = c.args.system.now in
    let s = g.S.Semiring.operations p.semiring in
    let aim = c.args.target.now in
    let x = c.item.result.now in
    let list = c.item.result.now.set in
    let same : y.set ≡ list = ap (λ (z : Item). z.set) (same_Some y x (sym there ∙ c.item.ensures.item)) in
    let P : List ℕ → Type 0 = λ xs. IsIn h xs in
    let at = stands_in h list (subst P same is) in
    let least = at.1 in
    let low : at.0 < c.loop-i.i = omega (arith, least, c.loop-i-test.false) in
    let Q : ℕ → Type 0 = λ i. Below s (weights s c.loop-i.tables.target aim.control i (c.args.k + 1)) s.one in
    subst Q at.2 (c.loop-i.invariant.2 at.0 low)
