use Rattle.std.proofs.Common.{◌≡◌, inl, inr, ℕ, ◌<◌, ◌≤◌, length, refl, sym, ap, ◌∙◌, subst, arith}
use Rattle.std.proofs.lemmas.Bool.{cases_lt}
use Rattle.wpds_base.specs.Lists.{IsIn}
use Rattle.semiring_laws.specs.Semiring.{Below}
use Rattle.config_patterns.specs.Edges.{edges_of}
use Rattle.weight_tables.specs.Tables.{TablesValue}
use Rattle.walk_pairs.proofs.CallerLemmas.{edge_from, edge_to}
use Rattle.value_tails.specs.Tailing.{tail_in, IsTail}
use Rattle.value_tails.specs.private.Steps.{AreTailsLowered}
use Rattle.value_tails.proofs.TailLemmas.{tails_none, tails_then, tails_fit, tail_later}
use Rattle.value_tails.proofs.reading.read_back.Goals as goal

pub returns-then-to-items-clause-met : goal.returns-then-to-items-clause-met
returns-then-to-items-clause-met g c = λ a h edge.
    let low = edge_to c.args.first.now.items a h c.args.to edge in
    let high = c.if-to-items.true in
    let items = c.items.ensures.value in
    absurd (omega (arith, low, high, items))

pub loop-from-init : goal.loop-from-init
loop-from-init g c = (tails_none g.S.Semiring.operations (λ x. g.S.Semiring.laws x) c.args.first.now c.args.tables.now, refl, λ a low. absurd (omega (arith, low)))

pub read_edge-requires : goal.read_edge-requires
read_edge-requires g c =
    let a = c.args in
    let v = a.tables.now in
    let now = c.loop-from.tables in
    let inv = c.loop-from.invariant in
    let s = g.S.Semiring.operations v.system.semiring in
    let P : TablesValue g.row.S.Denot g.row.S-W.Denot g.row.S-Ret.Denot → Type 0 = λ u. IsTail (g.S.Semiring.operations u.system.semiring) a.first.now u.system a.to now.hand in
    let Q : g.row.S-W.Denot → Type 0 = IsTail s a.first.now v.system a.to in
    let high = c.if-to-items.false in
    let items = c.items.ensures.value in
    record { to = omega (arith, high, items); made = subst P (sym inv.0.others) (subst Q (sym inv.1) c.requires.made) }

pub loop-from-preserved : goal.loop-from-preserved
loop-from-preserved g c =
    let a = c.args in
    let v = a.tables.now in
    let now = c.loop-from.tables in
    let new = c.read_edge.new.tables in
    let inv = c.loop-from.invariant in
    let s = g.S.Semiring.operations v.system.semiring in
    let step = c.in_ok-read_edge.ensures.lowered in
    let S' : TablesValue g.row.S.Denot g.row.S-W.Denot g.row.S-Ret.Denot → Type 0 = λ u. AreTailsLowered (g.S.Semiring.operations u.system.semiring) a.first.now u new in
    let step' = subst S' inv.0.others step in
    let M : TablesValue g.row.S.Denot g.row.S-W.Denot g.row.S-Ret.Denot → Type 0 =
    λ u. (h : ℕ) → IsIn (record { from = c.loop-from.from; symbol = h; to = a.to }) (edges_of a.first.now.items) → Below (g.S.Semiring.operations u.system.semiring) (tail_in (g.S.Semiring.operations u.system.semiring) new.target c.loop-from.from) now.hand in
    let here = subst M inv.0.others c.in_ok-read_edge.ensures.met in
    let fits = tails_fit g.S.Semiring.operations (λ x. g.S.Semiring.laws x) a.first.now v now c.valid.ensures.tables.target.fits inv.0 in (
      tails_then g.S.Semiring.operations (λ x. g.S.Semiring.laws x) a.first.now v now new inv.0 step,
      c.in_ok-read_edge.ensures.hand ∙ inv.1,
      λ b low h edge. elim (cases_lt b c.loop-from.from) [
        | inl before ↦
            let old = inv.2 b before h edge in
            tail_later g.S.Semiring.operations (λ x. g.S.Semiring.laws x) a.first.now (record v { hand = now.hand; target = now.target }) new fits step' b v.hand c.valid.ensures.tables.hand old
        | inr behind ↦
            let same : c.loop-from.from ≡ b = omega (arith, low, behind) in
            let Q : g.row.S-W.Denot → Type 0 = λ w. Below s (tail_in s new.target b) w in
            let B : ℕ → Type 0 = λ n. IsIn (record { from = n; symbol = h; to = a.to }) (edges_of a.first.now.items) → Below s (tail_in s new.target n) now.hand in
            subst Q inv.1 (subst B same (here h) edge)
      ],
    )

pub returns : goal.returns
returns g c =
    let inv = c.loop-from.invariant in
    record {
      lowered = inv.0;
      hand = inv.1;
      met = λ b h edge.
          let low = edge_from c.args.first.now.items b h c.args.to edge in
          let end = c.loop-from-test.false in
          let items = c.items-states.ensures.value in
          inv.2 b (omega (arith, low, end, items)) h edge;
    }
