use Rattle.std.proofs.Common.{◌≡◌, inl, inr, ℕ, get_or, refl, sym, ap, ◌∙◌, subst, arith, List}
use Rattle.std.specs.Prelude.{IsTrue}
use Rattle.std.proofs.lemmas.Bool.{cases_lt}
use Rattle.std.proofs.lemmas.Option.{same_Some, get_or_from_slice_get}
use Rattle.semiring_laws.specs.Semiring.{Below}
use Rattle.config_patterns.specs.declared.item.Item.{Item}
use Rattle.config_patterns.specs.Membership.{has_symbol}
use Rattle.weight_tables.specs.Entries.{weight_in}
use Rattle.weight_tables.specs.Tables.{with_entries}
use Rattle.weight_tables.specs.declared.layer.Layer.TheVariants.{Walk}
use Rattle.walk_pairs.specs.Giving.{IsFallOn, worth_over}
use Rattle.walk_pairs.specs.Pairs.{pair_place}
use Rattle.walk_pairs.specs.Ways.{TakesAt}
use Rattle.walk_pairs.proofs.SetLemmas.{symbol_at, has_symbol_of}
use Rattle.walk_pairs.proofs.PairLemmas.{none_pairs, pairs_then, pairs_wider, pairs_fit, below_later}
use Rattle.walk_pairs.proofs.FallLemmas.{fall_fits, worth_fits}
use Rattle.walk_pairs.proofs.GivenLemmas.{on_made, on_met}
use Rattle.walk_pairs.proofs.falls.fall_rows.Goals as goal

pub loop-k-init : goal.loop-k-init
loop-k-init g c =
    let a = c.args in
    let v = a.tables.now in
    let s = g.S.Semiring.operations v.system.semiring in
    (none_pairs s (IsFallOn s v a.order a.layer a.stage a.from (TakesAt a.pattern.now.items a.next) a.next) v, λ k low. absurd (omega (arith, low)))

pub loop-k-preserved : goal.loop-k-preserved
loop-k-preserved g c =
    let a = c.args in
    let v = a.tables.now in
    let s = g.S.Semiring.operations v.system.semiring in
    let law = g.S.Semiring.laws v.system.semiring in
    let valid = c.valid.ensures.tables in
    let v1 = c.loop-k.tables in
    let v2 = c.fall_row.new.tables in
    let i = c.loop-k.k in
    let set = c.item.result.now.set in
    let x : ℕ = c.at.result in
    let at : get_or set i 0 ≡ x = get_or_from_slice_get set i x 0 c.at.ensures in
    let Has : ℕ → Type 0 = TakesAt a.pattern.now.items a.next in
    let one = c.loop-k.invariant.0 in
    let has : Has x = (c.item.result.now, c.item.ensures.item, has_symbol_of set i x c.at.ensures) in
    let made = on_made g.S.Semiring.operations v a.order a.layer c.requires.layer a.stage v1 v2 one.others a.from (λ h. h ≡ x) a.next c.in_ok-fall_row.ensures in
    let step = pairs_wider s (IsFallOn s v a.order a.layer a.stage a.from (λ h. h ≡ x) a.next) (IsFallOn s v a.order a.layer a.stage a.from Has a.next)
    (λ p w is. record { symbol = is.symbol; to = is.to; has = subst Has (sym is.has) has; place = is.place; weight = is.weight }) (with_entries Walk v1.walk v) v2 made in (
      pairs_then s (IsFallOn s v a.order a.layer a.stage a.from Has a.next) v v1 v2 one step,
      λ k low to. elim (cases_lt k i) [
        | inl before ↦ below_later law (IsFallOn s v a.order a.layer a.stage a.from Has a.next) (fall_fits law v valid a.order a.layer a.stage a.from Has a.next) (with_entries Walk v1.walk v)
            (pairs_fit law (IsFallOn s v a.order a.layer a.stage a.from Has a.next) (fall_fits law v valid a.order a.layer a.stage a.from Has a.next) v valid.walk.fits v1 one) v2 step
            (pair_place a.stage a.next to) (worth_over s v a.order a.layer a.stage a.from (get_or set k 0) to) (worth_fits law v valid a.order a.layer a.stage a.from (get_or set k 0) to) (c.loop-k.invariant.1 k before to)
        | inr behind ↦
            let same : i ≡ k = omega (arith, low, behind) in
            let Q : ℕ → Type 0 = λ h. Below s (weight_in s v2.walk (pair_place a.stage a.next to)) (worth_over s v a.order a.layer a.stage a.from h to) in
            subst Q (sym at ∙ ap (λ n. get_or set n 0) same) (on_met g.S.Semiring.operations v a.order a.layer c.requires.layer a.stage v1 v2 one.others a.from (λ h. h ≡ x) a.next c.in_ok-fall_row.ensures x refl to)
      ],
    )

pub returns : goal.returns
returns g c =
    let a = c.args in
    let v = a.tables.now in
    let s = g.S.Semiring.operations v.system.semiring in
    let set = c.item.result.now.set in
    record {
      lowered = c.loop-k.invariant.0;
      met = λ h has to.
          let item : has.0 ≡ c.item.result.now = same_Some has.0 c.item.result.now (sym has.1 ∙ c.item.ensures.item) in
          let P : List ℕ → Type 0 = λ xs. IsTrue (has_symbol h xs) in
          let there : IsTrue (has_symbol h set) = subst P (ap (λ (y : Item). y.set) item) has.2 in
          let at = symbol_at set h there in
          let Q : ℕ → Type 0 = λ n. Below s (weight_in s c.loop-k.tables.walk (pair_place a.stage a.next to)) (worth_over s v a.order a.layer a.stage a.from n to) in
          let low = at.1 in
          subst Q at.2 (c.loop-k.invariant.1 at.0 (omega (arith, low, c.loop-k-test.false)) to);
    }
