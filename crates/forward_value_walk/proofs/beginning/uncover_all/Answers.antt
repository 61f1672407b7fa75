use Rattle.std.proofs.Common.{◌≡◌, inl, inr, ℕ, subst, arith}
use Rattle.std.proofs.lemmas.Bool.{cases_lt}
use Rattle.weight_tables.specs.Tables.{TablesValue}
use Rattle.forward_value_walk.specs.private.Going.{IsUncovered}
use Rattle.forward_value_walk.proofs.GoingLemmas.{walkable_of, none_gone, gone_then, gone_walkable}
use Rattle.forward_value_walk.proofs.BeginLemmas.{uncovered_later}
use Rattle.forward_value_walk.proofs.beginning.uncover_all.Goals as goal

pub loop-item-init : goal.loop-item-init
loop-item-init g c = (none_gone g.S.Semiring.operations (λ x. g.S.Semiring.laws x) c.args.first.now c.args.wanted.now c.args.tables.now, λ i low. absurd (omega (arith, low)))

pub uncover-requires : goal.uncover-requires
uncover-requires g c =
    let a = c.args in
    let v = a.tables.now in
    let walkable = walkable_of g.S.Semiring.operations a.first.now a.wanted.now v c.valid.ensures.system c.valid.ensures.tables c.requires.finished c.requires.made in
    let now = gone_walkable g.S.Semiring.operations (λ x. g.S.Semiring.laws x) a.first.now a.wanted.now v c.loop-item.tables walkable c.loop-item.invariant.0 in
    let low = c.loop-item-test.true in
    let items = c.items-states.ensures.value in
    record { item = omega (arith, low, items); finished = now.finished }

pub loop-item-preserved : goal.loop-item-preserved
loop-item-preserved g c =
    let a = c.args in
    let v = a.tables.now in
    let s = g.S.Semiring.operations v.system.semiring in
    let v1 = c.loop-item.tables in
    let v2 = c.uncover.new.tables in
    let inv = c.loop-item.invariant in
    let walkable = walkable_of g.S.Semiring.operations a.first.now a.wanted.now v c.valid.ensures.system c.valid.ensures.tables c.requires.finished c.requires.made in
    let now = gone_walkable g.S.Semiring.operations (λ x. g.S.Semiring.laws x) a.first.now a.wanted.now v v1 walkable inv.0 in
    let step = c.in_ok-uncover.ensures.gone in
    let P : ℕ → TablesValue g.row.S.Denot g.row.S-W.Denot g.row.S-Ret.Denot → Type 0 = λ i u. IsUncovered (g.S.Semiring.operations u.system.semiring) a.wanted.now u i v1.walk → IsUncovered (g.S.Semiring.operations u.system.semiring) a.wanted.now u i v2.walk in
    let Q : TablesValue g.row.S.Denot g.row.S-W.Denot g.row.S-Ret.Denot → Type 0 = λ u. IsUncovered (g.S.Semiring.operations u.system.semiring) a.wanted.now u c.loop-item.item v2.walk in
    let here = subst Q inv.0.others c.in_ok-uncover.ensures.met in (
      gone_then g.S.Semiring.operations (λ x. g.S.Semiring.laws x) a.first.now a.wanted.now v v1 v2 inv.0 step,
      λ i low. elim (cases_lt i c.loop-item.item) [
        | inl before ↦ subst (P i) inv.0.others (uncovered_later g.S.Semiring.operations (λ x. g.S.Semiring.laws x) a.first.now a.wanted.now v1 v2 now step i) (inv.1 i before)
        | inr behind ↦
            let same : c.loop-item.item ≡ i = omega (arith, low, behind) in
            let R : ℕ → Type 0 = λ j. IsUncovered s a.wanted.now v j v2.walk in
            subst R same here
      ],
    )

pub returns : goal.returns
returns g c = record {
  gone = c.loop-item.invariant.0;
  met = λ i low. let items = c.items-states.ensures.value in let end = c.loop-item-test.false in c.loop-item.invariant.1 i (omega (arith, low, items, end));
}
