use Rattle.std.proofs.Common.{◌≡◌, ◌∙◌, sym, ap, subst}
use Rattle.weighted_automata.specs.declared.place.Label.TheVariants.{Empty}
use Rattle.weighted_automata.specs.declared.place.Place.{Place}
use Rattle.weight_tables.proofs.CallerLemmas.{none_settled}
use Rattle.forward_value_search.specs.Places.{arrow}
use Rattle.forward_value_search.proofs.PlaceLemmas.{is_end, end_is, end_itself}
use Rattle.forward_value_search.proofs.LoopLemmas.{end_goes, loop_place, loop_starts, loop_at, loop_within, loop_goes_on, loop_ends, loop_smaller}
use Rattle.forward_value_search.proofs.MeetLemmas.{EndsMet, met_later, end_counts_nothing}
use Rattle.forward_value_search.proofs.meet.meet_ends.Goals as goal

pub ends-init : goal.ends-init
ends-init g c =
    loop_starts c.semiring-semiring.ensures.valid (g.S.Semiring.laws c.args.system.now.semiring) c.args.first.now (is_end c.args.callee)
    (EndsMet g.S.Semiring.operations c.args.system.now c.args.first.now c.args.k c.args.below c.args.row) c.args.tables.now c.requires.ready c.first_empty_into-at.result c.first_empty_into-at.ensures.number

pub place-from-requires : goal.place-from-requires
place-from-requires g c =
    loop_within c.semiring-semiring.ensures.valid (g.S.Semiring.laws c.args.system.now.semiring) c.args.first.now (is_end c.args.callee)
    (EndsMet g.S.Semiring.operations c.args.system.now c.args.first.now c.args.k c.args.below c.args.row) c.args.tables.now c.requires.ready c.ends.tables c.ends.at c.ends.invariant c.in-Some.end c.in-Some.is

pub meet_end-requires-clause-ready : goal.meet_end-requires-clause-ready
meet_end-requires-clause-ready g c = c.ends.invariant.onward.ready

pub meet_end-requires-clause-row : goal.meet_end-requires-clause-row
meet_end-requires-clause-row g c = c.ends.invariant.onward.numbers c.args.t c.args.row c.requires.row

pub meet_end-requires-clause-end : goal.meet_end-requires-clause-end
meet_end-requires-clause-end g c =
    let found = loop_at c.semiring-semiring.ensures.valid (g.S.Semiring.laws c.args.system.now.semiring) c.args.first.now (is_end c.args.callee)
    (EndsMet g.S.Semiring.operations c.args.system.now c.args.first.now c.args.k c.args.below c.args.row) c.args.tables.now c.requires.ready c.ends.tables c.ends.at c.ends.invariant c.in-Some.end c.in-Some.is in
    (found.item, found.there, end_is c.args.callee found.item.place found.passes ∙ ap (λ (y : Place). arrow y.from Empty c.args.callee) (sym (c.place-from.ensures found.item found.there)))

pub ends-preserved : goal.ends-preserved
ends-preserved g c =
    let valid = c.semiring-semiring.ensures.valid in
    let laws = g.S.Semiring.laws c.args.system.now.semiring in
    let first = c.args.first.now in
    let call = c.requires.call in
    let now = c.ends.tables in
    let new = c.meet_end.new.tables in
    let onward = c.in_ok-meet_end.ensures.onward in
    let ready = c.ends.invariant.onward.ready in
    let found = loop_at valid laws first (is_end c.args.callee) (EndsMet g.S.Semiring.operations c.args.system.now first c.args.k c.args.below c.args.row) c.args.tables.now c.requires.ready now c.ends.at c.ends.invariant c.in-Some.end c.in-Some.is in
    loop_goes_on valid laws first (is_end c.args.callee) (EndsMet g.S.Semiring.operations c.args.system.now first c.args.k c.args.below c.args.row) c.args.tables.now c.requires.ready now c.ends.at c.ends.invariant c.in-Some.end c.in-Some.is new onward c.next_empty_into-at.result
    (end_goes now.base new.base onward.numbers c.in-Some.end c.next_empty_into-at.result c.args.callee found c.next_empty_into-at.ensures.row)
    (λ x passes met. met_later valid laws first c.args.k call.rule call.there call.top c.args.below call.right now new ready onward c.args.row x met)
    (λ x there.
    let same : arrow c.place-from.result.from Empty c.args.callee ≡ x =
    ap (λ (y : Place). arrow y.from Empty c.args.callee) (c.place-from.ensures there.0 there.1 ∙ there.2) ∙ sym (end_is c.args.callee x (loop_place valid laws first (is_end c.args.callee) (EndsMet g.S.Semiring.operations c.args.system.now first c.args.k c.args.below c.args.row) c.args.tables.now c.requires.ready now c.ends.at c.ends.invariant c.in-Some.end c.in-Some.is x there)) in
    let Q : Place → Type 0 = EndsMet g.S.Semiring.operations c.args.system.now first c.args.k c.args.below c.args.row new in
    subst Q same c.in_ok-meet_end.ensures.met)

pub ends-smaller : goal.ends-smaller
ends-smaller g c =
    let valid = c.semiring-semiring.ensures.valid in
    let laws = g.S.Semiring.laws c.args.system.now.semiring in
    let first = c.args.first.now in
    let now = c.ends.tables in
    let new = c.meet_end.new.tables in
    let found = loop_at valid laws first (is_end c.args.callee) (EndsMet g.S.Semiring.operations c.args.system.now first c.args.k c.args.below c.args.row) c.args.tables.now c.requires.ready now c.ends.at c.ends.invariant c.in-Some.end c.in-Some.is in
    loop_smaller valid laws first (is_end c.args.callee) (EndsMet g.S.Semiring.operations c.args.system.now first c.args.k c.args.below c.args.row) c.args.tables.now c.requires.ready now c.ends.at c.ends.invariant c.in-Some.end c.in-Some.is new c.next_empty_into-at.result
    (end_goes now.base new.base c.in_ok-meet_end.ensures.onward.numbers c.in-Some.end c.next_empty_into-at.result c.args.callee found c.next_empty_into-at.ensures.row)

pub returns-clause-met : goal.returns-clause-met
returns-clause-met g c = λ q.
    let valid = c.semiring-semiring.ensures.valid in
    let laws = g.S.Semiring.laws c.args.system.now.semiring in
    let call = c.requires.call in
    let now = c.ends.tables in
    loop_ends valid laws c.args.first.now (is_end c.args.callee)
    (EndsMet g.S.Semiring.operations c.args.system.now c.args.first.now c.args.k c.args.below c.args.row) c.args.tables.now c.requires.ready now c.ends.at c.ends.invariant c.in_default.is
    (λ x none. end_counts_nothing valid laws c.args.first.now c.args.k call.rule call.there call.top c.args.below call.right now c.ends.invariant.onward.ready c.args.row x
    (none_settled (g.S.Semiring.operations c.args.system.now.semiring) x now.base none))
    (arrow q Empty c.args.callee) (end_itself q c.args.callee)
