use Rattle.std.proofs.Common.{◌≡◌, ℕ, sym, ap, ◌∙◌}
use Rattle.weighted_automata.specs.declared.place.Place.{Place}
use Rattle.weighted_automata.specs.declared.place.Label.TheVariants.{Symbol}
use Rattle.weight_tables.specs.Tables.{TablesValue}
use Rattle.walk_pairs.specs.Pairs.{joined, pair_place}
use Rattle.walk_pairs.specs.Giving.{IsFallOn}
use Rattle.walk_pairs.specs.Ways.{TakesAt}
use Rattle.walk_pairs.proofs.LoweringLemmas.{one_below}
use Rattle.walk_pairs.proofs.PairLemmas.{one_pair}
use Rattle.walk_pairs.proofs.FallLemmas.{entry_falls, entry_fits}
use Rattle.walk_pairs.proofs.falls.fall_over.Goals as goal

pub returns-in_ok-fall-in-Symbol : goal.returns-in_ok-fall-in-Symbol
returns-in_ok-fall-in-Symbol g c =
    let a = c.args in
    let v = a.tables.now in
    let s = g.S.Semiring.operations v.system.semiring in
    let law = g.S.Semiring.laws v.system.semiring in
    let valid = c.valid.ensures.tables in
    let Has : ℕ → Type 0 = TakesAt a.pattern.now.items a.next in
    let has : Has c.in-Symbol.symbol = (c.item-item.result.now, c.item-item.ensures.item, sym c.has.ensures ∙ c.if-not-has.false) in
    record {
      lowered = λ e there.
          let label : e.place.label ≡ Symbol c.in-Symbol.symbol = sym (ap (λ (x : Place). x.label) (c.place.ensures e there)) ∙ c.in-Symbol.is in
          one_pair s (IsFallOn s v a.order a.layer a.stage e.place.from Has a.next) (pair_place a.stage a.next e.place.to) (joined s a.order v.hand e.weight) (entry_falls law v valid a.order a.layer a.stage Has a.next a.t e c.in-Symbol.symbol there label has)
          v c.fall.new.tables (c.in_ok-fall-in-Symbol.ensures e there);
      met = λ e there h label _.
          one_below law (pair_place a.stage a.next e.place.to) (joined s a.order v.hand e.weight) (entry_fits law v valid a.order a.layer a.stage e.place.from Has a.next a.t e h there label) v.walk c.fall.new.tables.walk valid.walk.fits
          (ap (λ (u : TablesValue g.row.S.Denot g.row.S-W.Denot g.row.S-Ret.Denot). u.walk) (c.in_ok-fall-in-Symbol.ensures e there));
    }
