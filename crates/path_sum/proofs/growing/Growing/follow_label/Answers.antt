use Rattle.std.proofs.Common.{◌<◌, ◌++◌, ℕ, [], length, refl, sym, ap, ◌∙◌, subst}
use Rattle.std.specs.Prelude.{Option, ◌||◌}
use Rattle.std.proofs.lemmas.Option.{slice_get_within}
use Rattle.weighted_automata.specs.declared.place.Label.TheVariants.{Empty}
use Rattle.weighted_automata.specs.Entries.{is_from, Present}
use Rattle.direction_parts.specs.Merges.{lower_of}
use Rattle.direction_parts.proofs.CallerLemmas.{as_pass, pass_at, passes_at, fork_starts, fork_at, fork_goes_on, fork_ends, less_to_fork, to_go}
use Rattle.path_sum.specs.Sums.{ways_of, pair_place, grow}
use Rattle.path_sum.specs.private.Growing.{IsReady, state_of}
use Rattle.path_sum.specs.private.Work.{pair_moves}
use Rattle.path_sum.proofs.LoopLemmas.{grow_on}
use Rattle.path_sum.proofs.ReadLemmas.{one_by, one_here, by_each, none_else, from_state}
use Rattle.path_sum.proofs.growing.Growing.follow_label.Goals as goal

pub rows-init : goal.rows-init
rows-init g c =
    let input = c.args.input.now in
    let ts = c.transitions-transitions.result.now.transitions in
    let f = one_by input.opening (ways_of input.pattern) c.args.i c.args.state in
    let p = is_from c.args.state c.args.label in
    let q = is_from c.args.state Empty in
    (([], fork_starts p q f ts [] c.first_from-reading.result c.first_from-empty.result c.first_from-reading.ensures c.first_from-empty.ensures, refl), c.requires.ready, refl)

pub entry-requires : goal.entry-requires
entry-requires g c =
    let input = c.args.input.now in
    let ts = c.transitions-transitions.result.now.transitions in
    let f = one_by input.opening (ways_of input.pattern) c.args.i c.args.state in
    let p = is_from c.args.state c.args.label in
    let q = is_from c.args.state Empty in
    let made = c.rows.invariant.0.0 in
    let pass = as_pass p q f ts _ made c.rows.reading c.rows.empty c.rows.invariant.0.1 c.lower_index.result c.lower_index.ensures in
    let found = pass_at _ f ts _ made c.lower_index.result pass c.in-Some.k c.in-Some.is in
    slice_get_within ts c.in-Some.k found.item found.there

pub follow_any-requires-clause-ready : goal.follow_any-requires-clause-ready
follow_any-requires-clause-ready g c =
    let input = c.args.input.now in
    let s = g.S.Semiring.operations input.semiring in
    let ts = c.transitions-transitions.result.now.transitions in
    let f = one_by input.opening (ways_of input.pattern) c.args.i c.args.state in
    let p = is_from c.args.state c.args.label in
    let q = is_from c.args.state Empty in
    let made = c.rows.invariant.0.0 in
    let pass = as_pass p q f ts _ made c.rows.reading c.rows.empty c.rows.invariant.0.1 c.lower_index.result c.lower_index.ensures in
    let found = pass_at _ f ts _ made c.lower_index.result pass c.in-Some.k c.in-Some.is in
    let from = from_state c.args.state c.args.label c.entry.result.now (passes_at (λ u. p u || q u) ts c.in-Some.k c.entry.result.now found c.entry.ensures.entry) in
    subst (λ n. IsReady s input.transitions c.args.number (pair_place c.args.i n) (state_of c.rows.self)) (sym from) c.rows.invariant.1

pub follow_any-requires-clause-there : goal.follow_any-requires-clause-there
follow_any-requires-clause-there g c =
    subst (λ ts. Present ts c.entry.result.now) c.transitions-transitions.ensures c.entry.ensures.present

pub returns-in_err-follow_any-clause-graph : goal.returns-in_err-follow_any-clause-graph
returns-in_err-follow_any-clause-graph g c = c.follow_any.ensures.graph ∙ c.rows.invariant.2

pub rows-smaller : goal.rows-smaller
rows-smaller g c =
    let input = c.args.input.now in
    let ts = c.transitions-transitions.result.now.transitions in
    let f = one_by input.opening (ways_of input.pattern) c.args.i c.args.state in
    let p = is_from c.args.state c.args.label in
    let q = is_from c.args.state Empty in
    let k = c.in-Some.k in
    let at = fork_at p q f ts _ c.rows.invariant.0.0 c.rows.reading c.rows.empty c.rows.invariant.0.1 c.lower_index.result k c.lower_index.ensures c.in-Some.is in
    let P : Option ℕ → Type 0 = λ o. to_go (length ts) (lower_of c.behind-reading.result c.behind-empty.result) < to_go (length ts) o in
    subst P (sym c.in-Some.is ∙ c.lower_index.ensures) (less_to_fork p q f ts k c.behind-reading.result c.behind-empty.result (slice_get_within ts k c.entry.result.now c.entry.ensures.entry)
    (c.behind-reading.ensures c.args.state c.args.label at.0) (c.behind-empty.ensures c.args.state Empty at.1))

pub rows-preserved : goal.rows-preserved
rows-preserved g c =
    let input = c.args.input.now in
    let s = g.S.Semiring.operations input.semiring in
    let ways = ways_of input.pattern in
    let ts = c.transitions-transitions.result.now.transitions in
    let f = one_by input.opening ways c.args.i c.args.state in
    let p = is_from c.args.state c.args.label in
    let q = is_from c.args.state Empty in
    let made = c.rows.invariant.0.0 in
    let fork = c.rows.invariant.0.1 in
    let k = c.in-Some.k in
    let t = c.entry.result.now in
    let at = fork_at p q f ts _ made c.rows.reading c.rows.empty fork c.lower_index.result k c.lower_index.ensures c.in-Some.is in
    let pass = as_pass p q f ts _ made c.rows.reading c.rows.empty fork c.lower_index.result c.lower_index.ensures in
    let found = pass_at _ f ts _ made c.lower_index.result pass k c.in-Some.is in
    let from = from_state c.args.state c.args.label t (passes_at (λ u. p u || q u) ts k t found c.entry.ensures.entry) in
    let now = state_of c.rows.self in
    let new = state_of c.follow_any.new.self in (
      (
        made ++ f k t,
        fork_goes_on p q f ts _ made c.rows.reading c.rows.empty fork (none_else input.opening ways c.args.i c.args.state c.args.label c.requires.alone)
            c.lower_index.result k t (made ++ f k t) c.behind-reading.result c.behind-empty.result c.lower_index.ensures c.in-Some.is c.entry.ensures.entry refl
            (c.behind-reading.ensures c.args.state c.args.label at.0) (c.behind-empty.ensures c.args.state Empty at.1),
        grow_on s input.side input.opening input.transitions ways made (f k t) (state_of c.args.self.now) now c.rows.invariant.0.2
            ∙ ap (grow s input.side input.opening input.transitions ways now) (one_here input.opening ways c.args.i c.args.state k t from)
            ∙ c.in_ok-follow_any.ensures.grows,
      ),
      subst (λ n. IsReady s input.transitions c.args.number (pair_place c.args.i n) new) from c.in_ok-follow_any.ensures.ready,
      c.follow_any.ensures.graph ∙ c.rows.invariant.2,
    )

pub returns-clause-grows : goal.returns-clause-grows
returns-clause-grows g c =
    let input = c.args.input.now in
    let s = g.S.Semiring.operations input.semiring in
    let ways = ways_of input.pattern in
    let ts = c.transitions-transitions.result.now.transitions in
    let f = one_by input.opening ways c.args.i c.args.state in
    let p = is_from c.args.state c.args.label in
    let q = is_from c.args.state Empty in
    let made = c.rows.invariant.0.0 in
    let ends = fork_ends p q f ts _ made c.rows.reading c.rows.empty c.rows.invariant.0.1 (none_else input.opening ways c.args.i c.args.state c.args.label c.requires.alone)
    c.lower_index.result c.lower_index.ensures c.in_default.is in
    ap (grow s input.side input.opening input.transitions ways (state_of c.args.self.now))
    (ap (pair_moves input.opening ways c.args.i c.args.state) (sym c.transitions-transitions.ensures)
    ∙ by_each input.opening ways c.args.i c.args.state 0 ts ∙ sym ends)
    ∙ c.rows.invariant.0.2

pub returns-clause-ready : goal.returns-clause-ready
returns-clause-ready g c = c.rows.invariant.1

pub returns-clause-graph : goal.returns-clause-graph
returns-clause-graph g c = c.rows.invariant.2
