use Rattle.std.proofs.Common.{◌≡◌, ◌∙◌, ℕ, suc, ◌-◌, true, false, sym, ap, subst, arith}
use Rattle.std.specs.Prelude.{Some, slice_get}
use Rattle.std.proofs.lemmas.Bool.{and_parts, and_from}
use Rattle.wpds_base.specs.Lists.{IsIn}
use Rattle.config_patterns.specs.Edges.{edges_of}
use Rattle.config_patterns.specs.Membership.{has_symbol}
use Rattle.forward_value_search.proofs.OnwardLemmas.{onward_itself}
use Rattle.forward_value_search.proofs.ReadLemmas.{stays_at, edge_back}
use Rattle.forward_value_search.proofs.read.read_again.Goals as goal

pub returns-then-row-eq0-clause-onward : goal.returns-then-row-eq0-clause-onward
returns-then-row-eq0-clause-onward g c = onward_itself c.semiring-semiring.ensures.valid (g.S.Semiring.laws c.args.system.now.semiring) c.args.first.now c.args.tables.now c.requires.ready

pub returns-then-row-eq0-clause-read : goal.returns-then-row-eq0-clause-read
returns-then-row-eq0-clause-read g c = λ k h is stays.
    let zero = c.if-row-eq0.true in absurd (omega (arith, is, zero))

pub returns-then-not-item-clause-onward : goal.returns-then-not-item-clause-onward
returns-then-not-item-clause-onward g c = onward_itself c.semiring-semiring.ensures.valid (g.S.Semiring.laws c.args.system.now.semiring) c.args.first.now c.args.tables.now c.requires.ready

pub returns-then-not-item-clause-read : goal.returns-then-not-item-clause-read
returns-then-not-item-clause-read g c = λ k h is stays.
    let x = c.item-item.result.now in
    let items = c.args.first.now.items in
    let e : c.args.row.to - 1 ≡ k = omega (arith, is) in
    let there : slice_get items k ≡ Some x = ap (slice_get items) (sym e) ∙ c.item-item.ensures.item in
    let yes : x.star ≡ true = (and_parts x.star (has_symbol h x.set) (sym (stays_at items k x h there) ∙ stays)).0 in
    let both : true ≡ false = sym yes ∙ c.if-not-item.true in cc

pub read_set-requires-clause-edges : goal.read_set-requires-clause-edges
read_set-requires-clause-edges g c = λ h has.
    let x = c.item-item.result.now in
    let items = c.args.first.now.items in
    let k = c.args.row.to - 1 in
    let some = c.if-row-eq0.false in
    let e : suc k ≡ c.args.row.to = omega arith in
    let P : ℕ → Type 0 = λ n. IsIn (record { from = n; symbol = h; to = n }) (edges_of items) in
    subst P e (edge_back items k h (stays_at items k x h c.item-item.ensures.item ∙ and_from x.star (has_symbol h x.set) c.if-not-item.false has))

pub returns-clause-read : goal.returns-clause-read
returns-clause-read g c = λ k h is stays.
    let x = c.item-item.result.now in
    let items = c.args.first.now.items in
    let e : c.args.row.to - 1 ≡ k = omega (arith, is) in
    let there : slice_get items k ≡ Some x = ap (slice_get items) (sym e) ∙ c.item-item.ensures.item in
    let has : has_symbol h x.set ≡ true = (and_parts x.star (has_symbol h x.set) (sym (stays_at items k x h there) ∙ stays)).1 in
    c.in_ok-read_set.ensures.read h has
