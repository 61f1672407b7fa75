use Rattle.std.proofs.Common.{◌≡◌, inl, inr, ℕ, ◌<◌, ◌≤◌, List, length, refl, sym, ap, ◌∙◌, subst, arith}
use Rattle.std.specs.Prelude.{Some, slice_get}
use Rattle.std.proofs.lemmas.Bool.{cases_lt}
use Rattle.std.proofs.lemmas.Option.{slice_get_within}
use Rattle.pushdown_rules.specs.declared.rule.Rule.{Rule}
use Rattle.weight_tables.specs.Entries.{TableEntry}
use Rattle.weight_tables.specs.Tables.{TablesValue}
use Rattle.value_tails.specs.private.Steps.{AreLinksLowered, IsRowLinked, IsLinkedUp}
use Rattle.value_tails.proofs.LinkLemmas.{IsSearched, empty_searched, links_none, links_then, links_searched, row_later, linked_up}
use Rattle.value_tails.proofs.links.link_all.Goals as goal

pub loop-t-init : goal.loop-t-init
loop-t-init g c = (links_none g.S.Semiring.operations (λ x. g.S.Semiring.laws x) c.args.first.now c.renew.new.self, λ t low. absurd (omega (arith, low)))

pub link_entry-requires : goal.link_entry-requires
link_entry-requires g c =
    let a = c.args in
    let v1 = c.renew.new.self in
    let inv = c.loop-t.invariant in
    let searched = empty_searched g.S.Semiring.operations (λ x. g.S.Semiring.laws x) a.first.now a.tables.now c.valid.ensures.system c.valid.ensures.tables c.requires v1 c.renew.ensures in
    let now = links_searched g.S.Semiring.operations (λ x. g.S.Semiring.laws x) a.first.now v1 searched c.loop-t.tables inv.0 in
    let base : c.loop-t.tables.base ≡ v1.base = ap (λ (u : TablesValue g.row.S.Denot g.row.S-W.Denot g.row.S-Ret.Denot). u.base) inv.0.others in
    let same = ap (λ (es : List (TableEntry g.row.S-W.Denot)). length es) base in
    let low = c.loop-t-test.true in
    let len = c.len-t-end.ensures in
    record { entry = omega (arith, same, low, len); finished = now.finished }

pub loop-t-preserved : goal.loop-t-preserved
loop-t-preserved g c =
    let a = c.args in
    let v1 = c.renew.new.self in
    let now = c.loop-t.tables in
    let new = c.link_entry.new.tables in
    let inv = c.loop-t.invariant in
    let searched = empty_searched g.S.Semiring.operations (λ x. g.S.Semiring.laws x) a.first.now a.tables.now c.valid.ensures.system c.valid.ensures.tables c.requires v1 c.renew.ensures in
    let step = c.in_ok-link_entry.ensures.lowered in
    let M : TablesValue g.row.S.Denot g.row.S-W.Denot g.row.S-Ret.Denot → Type 0 = λ u. (e : TableEntry g.row.S-W.Denot) → slice_get u.base c.loop-t.t ≡ Some e → IsRowLinked (g.S.Semiring.operations u.system.semiring) a.first.now u new.walk e.place in
    let here = subst M inv.0.others c.in_ok-link_entry.ensures.met in (
      links_then g.S.Semiring.operations (λ x. g.S.Semiring.laws x) a.first.now v1 now new inv.0 step,
      λ t low e there. elim (cases_lt t c.loop-t.t) [
        | inl before ↦ row_later g.S.Semiring.operations (λ x. g.S.Semiring.laws x) a.first.now v1 searched now new inv.0 step e.place (inv.1 t before e there)
        | inr behind ↦
            let same : t ≡ c.loop-t.t = omega (arith, low, behind) in
            here e (ap (slice_get v1.base) (sym same) ∙ there)
      ],
    )

pub returns : goal.returns
returns g c =
    let a = c.args in
    let v1 = c.renew.new.self in
    let inv = c.loop-t.invariant in
    let searched = empty_searched g.S.Semiring.operations (λ x. g.S.Semiring.laws x) a.first.now a.tables.now c.valid.ensures.system c.valid.ensures.tables c.requires v1 c.renew.ensures in
    let all = linked_up g.S.Semiring.operations (λ x. g.S.Semiring.laws x) a.first.now a.tables.now c.valid.ensures.system c.valid.ensures.tables c.requires v1 c.renew.ensures c.loop-t.tables inv.0
    (λ t e there. let low = slice_get_within v1.base t e there in let end = c.loop-t-test.false in let len = c.len-t-end.ensures in inv.1 t (omega (arith, low, end, len)) e there) in
    record { linked = all.0; others = all.1 }
