use Rattle.std.proofs.Common.{◌≡◌, ◌+◌, ◌<◌, ◌^◌, sym, ap, ◌∙◌, subst, arith, refl}
use Rattle.std.specs.Option.{SomeIff}
use Rattle.std.specs.Ordering.{eq_by_cmp}
use Rattle.std.specs.Prelude.{None, Some, slice_get}
use Rattle.std.proofs.lemmas.Option.{slice_get_read, slice_get_past}
use Rattle.key_rows.specs.Rows.{next_by}
use Rattle.key_rows.proofs.RowLemmas.{next_in, next_some, gap_in, holds_some}
use Rattle.key_rows.proofs.rows.next_by_gap.Goals as goal

pub returns-then-gap-eq0 : goal.returns-then-gap-eq0
returns-then-gap-eq0 g c = λ ks gaps_are.
    let read : slice_get c.args.gaps.now c.args.k ≡ Some c.in-Some.gap.now =
    slice_get_read c.args.gaps.now _ c.args.k c.in-Some.gap.now refl (c.in-Some.ensures.lookup.3.0) c.in-Some.ensures.lookup.1 in
    ap (next_by c.args.k) (sym c.if-gap-eq0.true)
    ∙ next_in (eq_by_cmp g.K.Ord.cmp) ks c.args.gaps.now c.args.k (Some c.in-Some.gap.now) gaps_are read

pub returns-else-gap-eq0 : goal.returns-else-gap-eq0
returns-else-gap-eq0 g c = λ ks gaps_are.
    let read : slice_get c.args.gaps.now c.args.k ≡ Some c.in-Some.gap.now =
    slice_get_read c.args.gaps.now _ c.args.k c.in-Some.gap.now refl (c.in-Some.ensures.lookup.3.0) c.in-Some.ensures.lookup.1 in
    let below = gap_in (eq_by_cmp g.K.Ord.cmp) ks c.args.gaps.now c.args.k c.in-Some.gap.now gaps_are read in
    holds_some c.checked_add.result (c.args.k + c.in-Some.gap.now < 2 ^ 64) (c.args.k + c.in-Some.gap.now)
    (subst (λ n. SomeIff c.checked_add.result (c.args.k + n < 2 ^ 64) (c.args.k + n)) c.from.ensures c.checked_add.ensures)
    (omega (arith, below, c.requires))
    ∙ sym (next_some c.args.k c.in-Some.gap.now c.if-gap-eq0.false)
    ∙ next_in (eq_by_cmp g.K.Ord.cmp) ks c.args.gaps.now c.args.k (Some c.in-Some.gap.now) gaps_are read

pub returns-in-None : goal.returns-in-None
returns-in-None g c = λ ks gaps_are.
    next_in (eq_by_cmp g.K.Ord.cmp) ks c.args.gaps.now c.args.k None gaps_are (slice_get_past c.args.gaps.now c.args.k (c.in-None.ensures.lookup.3))
