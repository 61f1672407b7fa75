use Rattle.std.proofs.Common.{◌≡◌, ◌∙◌, ℕ, ◌<◌, true, get_or, refl, sym, subst, below_more, arith}
use Rattle.std.proofs.lemmas.Option.{get_or_from_slice_get, slice_get_within}
use Rattle.semiring_laws.specs.Semiring.{Below}
use Rattle.config_patterns.specs.Membership.{has_symbol}
use Rattle.weighted_automata.specs.declared.place.Label.TheVariants.{Symbol}
use Rattle.forward_value_search.specs.Places.{arrow}
use Rattle.forward_value_search.specs.Search.{HasSums, HasRead, weights}
use Rattle.forward_value_search.proofs.OnwardLemmas.{onward_itself, onward_then}
use Rattle.forward_value_search.proofs.ReadLemmas.{symbol_at, has_at, read_later, read_sums}
use Rattle.forward_value_search.proofs.read.read_set.Goals as goal

pub loop-k-init : goal.loop-k-init
loop-k-init g c =
    (onward_itself c.semiring-semiring.ensures.valid (g.S.Semiring.laws c.args.system.now.semiring) c.args.first.now c.args.tables.now c.requires.ready, refl, λ k low. absurd (omega (arith, low)))

pub give-requires-clause-ready : goal.give-requires-clause-ready
give-requires-clause-ready g c = c.loop-k.invariant.0.ready

pub give-requires-clause-sums : goal.give-requires-clause-sums
give-requires-clause-sums g c =
    let k = c.loop-k.k in
    let symbol = c.at.result in
    let hand = c.args.tables.now.hand in
    let sums = read_sums c.semiring-semiring.ensures.valid (g.S.Semiring.laws c.args.system.now.semiring) c.args.first.now c.args.row c.requires.empty symbol c.args.to hand (c.requires.edges symbol (subst (λ h. has_symbol h c.args.set.now ≡ true) (get_or_from_slice_get c.args.set.now k symbol 0 c.at.ensures) (has_at c.args.set.now k (slice_get_within c.args.set.now k symbol c.at.ensures))))
    c.requires.hand in
    subst (HasSums g.S.Semiring.operations c.args.system.now c.args.first.now (arrow c.args.row.from (Symbol symbol) c.args.to)) (sym c.loop-k.invariant.1) sums

pub loop-k-preserved : goal.loop-k-preserved
loop-k-preserved g c =
    let valid = c.semiring-semiring.ensures.valid in
    let laws = g.S.Semiring.laws c.args.system.now.semiring in
    let first = c.args.first.now in
    let now = c.loop-k.tables in
    let new = c.give.new.tables in
    let inv = c.loop-k.invariant in
    let onward = c.in_ok-give.ensures.onward in
    let hand = c.args.tables.now.hand in
    let k = c.loop-k.k in
    let s = g.S.Semiring.operations c.args.system.now.semiring in
    let goal_at = arrow c.args.row.from (Symbol c.at.result) c.args.to in
    let Q : ℕ → Type 0 = λ h. HasRead g.S.Semiring.operations c.args.system.now first new c.args.row h c.args.to hand in (
      onward_then valid laws first c.args.tables.now now new c.requires.ready inv.0 onward,
      c.in_ok-give.ensures.hand ∙ inv.1,
      below_more (λ j. HasRead g.S.Semiring.operations c.args.system.now first new c.args.row (get_or c.args.set.now j 0) c.args.to hand) k
          (λ j low. read_later valid laws first now new inv.0.ready onward c.args.row (get_or c.args.set.now j 0) c.args.to hand c.requires.ready.hand (inv.2 j low))
          (subst Q (sym (get_or_from_slice_get c.args.set.now k c.at.result 0 c.at.ensures))
          (subst (Below s (weights g.S.Semiring.operations c.args.system.now first new goal_at)) inv.1 c.in_ok-give.ensures.given)),
    )

pub returns-clause-read : goal.returns-clause-read
returns-clause-read g c = λ h has.
    let at = symbol_at h c.args.set.now has in
    let low = at.1 in
    let P : ℕ → Type 0 = λ n. HasRead g.S.Semiring.operations c.args.system.now c.args.first.now c.loop-k.tables c.args.row n c.args.to c.args.tables.now.hand in
    subst P at.2 (c.loop-k.invariant.2 at.0 (omega (arith, low)))
