use Rattle.std.proofs.Common.{◌≡◌, inl, inr, ℕ, ◌<◌, ◌≤◌, length, drop, refl, sym, ap, ◌∙◌, subst, arith}
use Rattle.std.specs.Prelude.{IsTrue, nat_le}
use Rattle.std.specs.List.{list_all}
use Rattle.std.proofs.lemmas.Bool.{cases_lt, and_parts, leb-true}
use Rattle.semiring_laws.specs.Semiring.{Below}
use Rattle.config_patterns.specs.Edges.{is_final_of, is_starred}
use Rattle.weight_tables.specs.Tables.{TablesValue, with_hand}
use Rattle.value_tails.specs.Tailing.{tail_in}
use Rattle.value_tails.specs.private.Steps.{AreTailsLowered}
use Rattle.value_tails.proofs.TailLemmas.{tails_none, tails_then, tails_fit, tail_later}
use Rattle.value_tails.proofs.BeginLemmas.{empty, empty_is, begun_tailing, begun_over}
use Rattle.value_tails.proofs.making.begin.Goals as goal

pub loop-state-init : goal.loop-state-init
loop-state-init g c = (tails_none g.S.Semiring.operations (λ x. g.S.Semiring.laws x) c.args.first.now c.hold_one.new.self, refl, λ a low. absurd (omega (arith, low)))

pub end-requires : goal.end-requires
end-requires g c =
    let v1 = c.hold_one.new.self in
    let now = c.loop-state.tables in
    let inv = c.loop-state.invariant in
    let G = λ (u : TablesValue g.row.S.Denot g.row.S-W.Denot g.row.S-Ret.Denot). with_hand (g.S.Semiring.operations u.system.semiring).one u in
    let is = c.in_ok-hold_one.ensures.ok ∙ ap G c.renew.ensures in
    let P : TablesValue g.row.S.Denot g.row.S-W.Denot g.row.S-Ret.Denot → Type 0 = λ u. u.hand ≡ (g.S.Semiring.operations u.system.semiring).one in
    let Q : TablesValue g.row.S.Denot g.row.S-W.Denot g.row.S-Ret.Denot → Type 0 = λ u. now.hand ≡ (g.S.Semiring.operations u.system.semiring).one in
    let one : P v1 = subst P (sym is) refl in
    record { hand = subst Q (sym inv.0.others) (inv.1 ∙ one) }

pub loop-state-preserved : goal.loop-state-preserved
loop-state-preserved g c =
    let a = c.args in
    let v = a.tables.now in
    let v1 = c.hold_one.new.self in
    let now = c.loop-state.tables in
    let new = c.end.new.tables in
    let inv = c.loop-state.invariant in
    let s = g.S.Semiring.operations v1.system.semiring in
    let law = g.S.Semiring.laws v1.system.semiring in
    let G = λ (u : TablesValue g.row.S.Denot g.row.S-W.Denot g.row.S-Ret.Denot). with_hand (g.S.Semiring.operations u.system.semiring).one u in
    let is = c.in_ok-hold_one.ensures.ok ∙ ap G c.renew.ensures in
    let fits1 = empty_is g.S.Semiring.operations (λ x. g.S.Semiring.laws x) v v1 is in
    let step = c.in_ok-end.ensures.lowered in
    let S' : TablesValue g.row.S.Denot g.row.S-W.Denot g.row.S-Ret.Denot → Type 0 = λ u. AreTailsLowered (g.S.Semiring.operations u.system.semiring) a.first.now u new in
    let step' = subst S' inv.0.others step in
    let M : TablesValue g.row.S.Denot g.row.S-W.Denot g.row.S-Ret.Denot → Type 0 =
    λ u. IsTrue (is_final_of a.first.now.items c.loop-state.state) → Below (g.S.Semiring.operations u.system.semiring) (tail_in (g.S.Semiring.operations u.system.semiring) new.target c.loop-state.state) (g.S.Semiring.operations u.system.semiring).one in
    let here = subst M inv.0.others c.in_ok-end.ensures.met in
    let fits = tails_fit g.S.Semiring.operations (λ x. g.S.Semiring.laws x) a.first.now v1 now fits1 inv.0 in (
      tails_then g.S.Semiring.operations (λ x. g.S.Semiring.laws x) a.first.now v1 now new inv.0 step,
      c.in_ok-end.ensures.hand ∙ inv.1,
      λ b low final. elim (cases_lt b c.loop-state.state) [
        | inl before ↦ tail_later g.S.Semiring.operations (λ x. g.S.Semiring.laws x) a.first.now (record v1 { hand = now.hand; target = now.target }) new fits step' b s.one law.fits-one (inv.2 b before final)
        | inr behind ↦
            let same : c.loop-state.state ≡ b = omega (arith, low, behind) in
            let B : ℕ → Type 0 = λ n. IsTrue (is_final_of a.first.now.items n) → Below s (tail_in s new.target n) s.one in
            subst B same here final
      ],
    )

pub returns : goal.returns
returns g c =
    let a = c.args in
    let v = a.tables.now in
    let v1 = c.hold_one.new.self in
    let now = c.loop-state.tables in
    let inv = c.loop-state.invariant in
    let G = λ (u : TablesValue g.row.S.Denot g.row.S-W.Denot g.row.S-Ret.Denot). with_hand (g.S.Semiring.operations u.system.semiring).one u in
    let is = c.in_ok-hold_one.ensures.ok ∙ ap G c.renew.ensures in
    let end = c.loop-state-test.false in
    let items = c.items-states.ensures.value in
    record {
      tailing = begun_tailing g.S.Semiring.operations (λ x. g.S.Semiring.laws x) a.first.now v c.valid.ensures.system c.valid.ensures.tables v1 is now inv.0
          (λ b final.
          let low = leb-true b (length a.first.now.items) (and_parts (nat_le b (length a.first.now.items)) (list_all is_starred (drop b a.first.now.items)) final).0 in
          inv.2 b (omega (arith, low, end, items)) final);
      others = begun_over g.S.Semiring.operations (λ x. g.S.Semiring.laws x) a.first.now v c.valid.ensures.system c.valid.ensures.tables v1 is now inv.0;
    }
