use Rattle.std.proofs.Common.{◌+◌, ◌<◌, refl, sym, ap, ◌∙◌, subst}
use Rattle.key_rows.specs.Rows.{index_from}
use Rattle.pushdown_rules.proofs.CallerLemmas.{index_from_start}
use Rattle.weighted_automata.specs.Entries.{is_out_of, Present}
use Rattle.path_sum.specs.Sums.{ways_of, pair_place, grow}
use Rattle.path_sum.specs.private.Growing.{IsReady, state_of}
use Rattle.path_sum.specs.private.Work.{pair_moves}
use Rattle.path_sum.proofs.LoopLemmas.{pair_more}
use Rattle.path_sum.proofs.RowLemmas.{row_left, row_ended, row_within, row_from, row_rest, row_shrinks}
use Rattle.path_sum.proofs.growing.Growing.follow_row.Goals as goal

pub loop-at-init : goal.loop-at-init
loop-at-init g c =
    let ts = c.transitions-transitions.result.now.transitions in
    ((0, c.first_out_of-at.ensures ∙ index_from_start (is_out_of c.args.state) ts, refl), c.requires.ready, refl)

pub entry-requires : goal.entry-requires
entry-requires g c =
    row_within c.args.state c.loop-at.invariant.0.0 c.in-Some.k c.transitions-transitions.result.now.transitions (sym c.loop-at.invariant.0.1 ∙ c.in-Some.is)

pub follow_any-requires-clause-ready : goal.follow_any-requires-clause-ready
follow_any-requires-clause-ready g c =
    let s = g.S.Semiring.operations c.args.input.now.semiring in
    let from = row_from c.args.state c.loop-at.invariant.0.0 c.in-Some.k c.transitions-transitions.result.now.transitions (sym c.loop-at.invariant.0.1 ∙ c.in-Some.is) c.entry.result.now c.entry.ensures.entry in
    subst (λ q. IsReady s c.args.input.now.transitions c.args.number (pair_place c.args.i q) (state_of c.loop-at.self)) (sym from) c.loop-at.invariant.1

pub follow_any-requires-clause-there : goal.follow_any-requires-clause-there
follow_any-requires-clause-there g c =
    subst (λ ts. Present ts c.entry.result.now) c.transitions-transitions.ensures c.entry.ensures.present

pub returns-in_err-follow_any-clause-graph : goal.returns-in_err-follow_any-clause-graph
returns-in_err-follow_any-clause-graph g c = c.follow_any.ensures.graph ∙ c.loop-at.invariant.2

pub loop-at-smaller : goal.loop-at-smaller
loop-at-smaller g c =
    let ts = c.transitions-transitions.result.now.transitions in
    let k = c.in-Some.k in
    let within = row_within c.args.state c.loop-at.invariant.0.0 k ts (sym c.loop-at.invariant.0.1 ∙ c.in-Some.is) in
    subst (λ at. row_rest ts c.next_out_of-at.result < row_rest ts at) (sym c.in-Some.is)
    (row_shrinks (is_out_of c.entry.result.now.place.from) k ts c.next_out_of-at.result within (c.next_out_of-at.ensures.row c.entry.result.now c.entry.ensures.entry))

pub loop-at-preserved : goal.loop-at-preserved
loop-at-preserved g c =
    let s = g.S.Semiring.operations c.args.input.now.semiring in
    let input = c.args.input.now in
    let ways = ways_of input.pattern in
    let ts = c.transitions-transitions.result.now.transitions in
    let k = c.in-Some.k in
    let t = c.entry.result.now in
    let at = sym c.loop-at.invariant.0.1 ∙ c.in-Some.is in
    let from = row_from c.args.state c.loop-at.invariant.0.0 k ts at t c.entry.ensures.entry in
    let left = row_left input.opening ways c.args.i c.args.state c.loop-at.invariant.0.0 k ts at in
    let now = state_of c.loop-at.self in
    let new = state_of c.follow_any.new.self in (
      (
        k + 1,
        c.next_out_of-at.ensures.row t c.entry.ensures.entry ∙ ap (λ q. index_from (is_out_of q) (k + 1) ts) from,
        pair_more s input.side input.opening input.transitions ways c.args.i c.args.state k ts t now new _ c.entry.ensures.entry from
            (sym (ap (grow s input.side input.opening input.transitions ways now) left) ∙ c.loop-at.invariant.0.2) c.in_ok-follow_any.ensures.grows,
      ),
      subst (λ q. IsReady s input.transitions c.args.number (pair_place c.args.i q) new) from c.in_ok-follow_any.ensures.ready,
      c.follow_any.ensures.graph ∙ c.loop-at.invariant.2,
    )

pub returns-clause-grows : goal.returns-clause-grows
returns-clause-grows g c =
    let s = g.S.Semiring.operations c.args.input.now.semiring in
    let input = c.args.input.now in
    let ways = ways_of input.pattern in
    let ts = c.transitions-transitions.result.now.transitions in
    let ended = row_ended input.opening ways c.args.i c.args.state c.loop-at.invariant.0.0 ts (sym c.loop-at.invariant.0.1 ∙ c.in_default.is) in
    sym (ap (λ us. grow s input.side input.opening input.transitions ways (state_of c.args.self.now) (pair_moves input.opening ways c.args.i c.args.state us)) c.transitions-transitions.ensures)
    ∙ sym c.loop-at.invariant.0.2
    ∙ ap (grow s input.side input.opening input.transitions ways (state_of c.loop-at.self)) ended

pub returns-clause-ready : goal.returns-clause-ready
returns-clause-ready g c = c.loop-at.invariant.1

pub returns-clause-graph : goal.returns-clause-graph
returns-clause-graph g c = c.loop-at.invariant.2
