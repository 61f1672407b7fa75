use Rattle.std.proofs.Common.{◌≡◌, inl, inr, ℕ, ◌<◌, ◌≤◌, true, false, length, sym, ap, ◌∙◌, subst, arith}
use Rattle.std.specs.Prelude.{Some, slice_get, IsTrue}
use Rattle.std.proofs.lemmas.Bool.{false≢true, ltb-true, lt-ltb, cases_lt}
use Rattle.std.proofs.lemmas.Option.{same_Some}
use Rattle.config_patterns.specs.declared.item.Item.{Item}
use Rattle.config_patterns.specs.Membership.{has_symbol}
use Rattle.value_tails.proofs.ReadLemmas.{symbol_below, first_symbol, none_has}
use Rattle.value_tails.proofs.reading.leads.Goals as goal

pub returns-then-to-ways-clause-edge : goal.returns-then-to-ways-clause-edge
returns-then-to-ways-clause-edge c = (
  λ no. absurd (false≢true no),
  λ edge. let way = (c.ways_from-ways.ensures.edges edge.0 c.args.to).0 edge.1 in let low = way.0 in let high = c.if-to-ways.true in absurd (omega (arith, low, high)),
)

pub returns-then-ways-to-clause-edge : goal.returns-then-ways-to-clause-edge
returns-then-ways-to-clause-edge c = (
  λ no. absurd (false≢true no),
  λ edge. let way = (c.ways_from-ways.ensures.edges edge.0 c.args.to).0 edge.1 in let low = way.1 in let high = c.if-ways-to.true in absurd (omega (arith, low, high)),
)

pub returns-clause-edge : goal.returns-clause-edge
returns-clause-edge c =
    let x = c.item-item.result.now in
    let len = c.len.ensures in
    let first = c.if-to-ways.false in
    let end = c.if-ways-to.false in (
      λ some.
          let low = ltb-true 0 c.len.result some in
          let s = first_symbol x.set (omega (arith, low, len)) in
          (s.0, (c.ways_from-ways.ensures.edges s.0 c.args.to).1 (omega (arith, first), omega (arith, end), (x, c.item-item.ensures.item, s.1))),
      λ edge.
          let takes = ((c.ways_from-ways.ensures.edges edge.0 c.args.to).0 edge.1).2 in
          let same : takes.0 ≡ x = same_Some takes.0 x (sym takes.1 ∙ c.item-item.ensures.item) in
          let has : has_symbol edge.0 x.set ≡ true = ap (λ (y : Item). has_symbol edge.0 y.set) (sym same) ∙ takes.2 in
          elim (cases_lt 0 c.len.result) [
            | inl low ↦ lt-ltb 0 c.len.result low
            | inr high ↦ absurd (none_has x.set (omega (arith, high, len)) edge.0 has)
          ],
    )

pub returns-clause-symbol : goal.returns-clause-symbol
returns-clause-symbol c = λ some h edge.
    let x = c.item-item.result.now in
    let takes = ((c.ways_from-ways.ensures.edges h c.args.to).0 edge).2 in
    let same : takes.0 ≡ x = same_Some takes.0 x (sym takes.1 ∙ c.item-item.ensures.item) in
    let has : has_symbol h x.set ≡ true = ap (λ (y : Item). has_symbol h y.set) (sym same) ∙ takes.2 in
    symbol_below c.args.pattern.now.symbols x.set c.item-item.ensures.valid.below h has
