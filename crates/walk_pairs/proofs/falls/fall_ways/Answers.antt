use Rattle.std.proofs.Common.{◌≡◌, inl, inr, ℕ, subst, arith}
use Rattle.std.proofs.lemmas.Bool.{cases_lt}
use Rattle.semiring_laws.specs.Semiring.{Below}
use Rattle.config_patterns.specs.Edges.{edges_of}
use Rattle.weight_tables.specs.Entries.{weight_in}
use Rattle.weight_tables.specs.Tables.{with_entries}
use Rattle.weight_tables.specs.declared.layer.Layer.TheVariants.{Walk}
use Rattle.walk_pairs.specs.Giving.{IsFallOn, IsFall, worth_over}
use Rattle.walk_pairs.specs.Pairs.{pair_place}
use Rattle.walk_pairs.specs.Ways.{TakesAt}
use Rattle.walk_pairs.proofs.PairLemmas.{none_pairs, pairs_then, pairs_wider, pairs_fit, below_later}
use Rattle.walk_pairs.proofs.FallLemmas.{ways_fit, worth_fits}
use Rattle.walk_pairs.proofs.GivenLemmas.{on_made, on_met}
use Rattle.walk_pairs.proofs.falls.fall_ways.Goals as goal

pub loop-next-init : goal.loop-next-init
loop-next-init g c =
    let a = c.args in
    let v = a.tables.now in
    let s = g.S.Semiring.operations v.system.semiring in
    (none_pairs s (IsFall s v a.order a.layer a.stage a.from (edges_of a.pattern.now.items) a.state) v, λ j low high. absurd (omega (arith, low, high)))

pub fall_on-requires-clause-above : goal.fall_on-requires-clause-above
fall_on-requires-clause-above g c = let above = c.ways_from-ways.ensures.above in let low = c.loop-next.auto.next in omega (arith, above, low)

pub fall_on-requires-clause-within : goal.fall_on-requires-clause-within
fall_on-requires-clause-within g c = let within = c.ways_from-ways.ensures.within in let high = c.loop-next-test.true in omega (arith, within, high)

pub loop-next-preserved : goal.loop-next-preserved
loop-next-preserved g c =
    let a = c.args in
    let v = a.tables.now in
    let s = g.S.Semiring.operations v.system.semiring in
    let law = g.S.Semiring.laws v.system.semiring in
    let valid = c.valid.ensures.tables in
    let v1 = c.loop-next.tables in
    let v2 = c.fall_on.new.tables in
    let i = c.loop-next.next in
    let items = a.pattern.now.items in
    let one = c.loop-next.invariant.0 in
    let made = on_made g.S.Semiring.operations v a.order a.layer c.requires a.stage v1 v2 one.others a.from (TakesAt items i) i c.in_ok-fall_on.ensures in
    let step = pairs_wider s (IsFallOn s v a.order a.layer a.stage a.from (TakesAt items i) i) (IsFall s v a.order a.layer a.stage a.from (edges_of items) a.state)
    (λ p w is. record { symbol = is.symbol; next = i; to = is.to; edge = (c.ways_from-ways.ensures.edges is.symbol i).1 (c.loop-next.auto.next, c.loop-next-test.true, is.has); place = is.place; weight = is.weight })
    (with_entries Walk v1.walk v) v2 made in (
      pairs_then s (IsFall s v a.order a.layer a.stage a.from (edges_of items) a.state) v v1 v2 one step,
      λ j low high h has to. elim (cases_lt j i) [
        | inl before ↦ below_later law (IsFall s v a.order a.layer a.stage a.from (edges_of items) a.state) (ways_fit law v valid a.order a.layer a.stage a.from (edges_of items) a.state) (with_entries Walk v1.walk v)
            (pairs_fit law (IsFall s v a.order a.layer a.stage a.from (edges_of items) a.state) (ways_fit law v valid a.order a.layer a.stage a.from (edges_of items) a.state) v valid.walk.fits v1 one) v2 step
            (pair_place a.stage j to) (worth_over s v a.order a.layer a.stage a.from h to) (worth_fits law v valid a.order a.layer a.stage a.from h to) (c.loop-next.invariant.1 j low before h has to)
        | inr behind ↦
            let same : i ≡ j = omega (arith, high, behind) in
            let Q : ℕ → Type 0 = λ n. TakesAt items n h → Below s (weight_in s v2.walk (pair_place a.stage n to)) (worth_over s v a.order a.layer a.stage a.from h to) in
            subst Q same (λ here. on_met g.S.Semiring.operations v a.order a.layer c.requires a.stage v1 v2 one.others a.from (TakesAt items i) i c.in_ok-fall_on.ensures h here to) has
      ],
    )

pub returns : goal.returns
returns g c = record {
  lowered = c.loop-next.invariant.0;
  met = λ h next edge to.
      let way = (c.ways_from-ways.ensures.edges h next).0 edge in
      let low = way.1 in
      c.loop-next.invariant.1 next way.0 (omega (arith, low, c.loop-next-test.false)) h way.2 to;
}
