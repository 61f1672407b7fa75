use Rattle.std.proofs.Common.{◌≡◌, ◌∙◌, refl, sym, subst}
use Rattle.weighted_automata.specs.declared.place.Place.{Place}
use Rattle.weight_tables.proofs.CallerLemmas.{none_settled}
use Rattle.weighted_automata.specs.declared.place.Label.TheVariants.{Symbol}
use Rattle.forward_value_search.specs.Places.{arrow}
use Rattle.forward_value_search.specs.Search.{HasMet}
use Rattle.forward_value_search.proofs.PlaceLemmas.{in_row, row_is, row_itself}
use Rattle.forward_value_search.proofs.LoopLemmas.{row_goes, loop_starts, loop_at, loop_within, loop_goes_on, loop_ends, loop_smaller}
use Rattle.forward_value_search.proofs.MeetLemmas.{CallsMet, holds_later, met_later, call_counts_nothing}
use Rattle.forward_value_search.proofs.ends.meet_row.Goals as goal

pub row-init : goal.row-init
row-init g c = (
  loop_starts c.semiring-semiring.ensures.valid (g.S.Semiring.laws c.args.system.now.semiring) c.args.first.now (in_row c.args.control c.args.symbol)
      (CallsMet g.S.Semiring.operations c.args.system.now c.args.first.now c.args.k c.args.below c.args.end) c.args.tables.now c.requires.ready c.first_from-at.result c.first_from-at.ensures.number,
  refl,
)

pub place-row-requires : goal.place-row-requires
place-row-requires g c =
    loop_within c.semiring-semiring.ensures.valid (g.S.Semiring.laws c.args.system.now.semiring) c.args.first.now (in_row c.args.control c.args.symbol)
    (CallsMet g.S.Semiring.operations c.args.system.now c.args.first.now c.args.k c.args.below c.args.end) c.args.tables.now c.requires.ready c.row.tables c.row.at c.row.invariant.0 c.in-Some.t c.in-Some.is

pub meet_call-requires-clause-ready : goal.meet_call-requires-clause-ready
meet_call-requires-clause-ready g c = c.row.invariant.0.onward.ready

pub meet_call-requires-clause-held : goal.meet_call-requires-clause-held
meet_call-requires-clause-held g c =
    holds_later c.semiring-semiring.ensures.valid (g.S.Semiring.laws c.args.system.now.semiring) c.args.first.now c.args.tables.now c.row.tables c.row.invariant.0.onward c.row.invariant.1 c.args.k c.args.end c.requires.held

pub meet_call-requires-clause-row : goal.meet_call-requires-clause-row
meet_call-requires-clause-row g c =
    let found = loop_at c.semiring-semiring.ensures.valid (g.S.Semiring.laws c.args.system.now.semiring) c.args.first.now (in_row c.args.control c.args.symbol)
    (CallsMet g.S.Semiring.operations c.args.system.now c.args.first.now c.args.k c.args.below c.args.end) c.args.tables.now c.requires.ready c.row.tables c.row.at c.row.invariant.0 c.in-Some.t c.in-Some.is in
    (found.item, found.there, sym (c.place-row.ensures found.item found.there))

pub meet_call-requires-clause-head : goal.meet_call-requires-clause-head
meet_call-requires-clause-head g c = λ r there.
    let row = c.place-row.result in
    let found = loop_at c.semiring-semiring.ensures.valid (g.S.Semiring.laws c.args.system.now.semiring) c.args.first.now (in_row c.args.control c.args.symbol)
    (CallsMet g.S.Semiring.operations c.args.system.now c.args.first.now c.args.k c.args.below c.args.end) c.args.tables.now c.requires.ready c.row.tables c.row.at c.row.invariant.0 c.in-Some.t c.in-Some.is in
    let P : Place → Type 0 = λ y. y ≡ arrow c.args.control (Symbol c.args.symbol) y.to in
    let is : row ≡ arrow c.args.control (Symbol c.args.symbol) row.to = subst P (sym (c.place-row.ensures found.item found.there)) (row_is c.args.control c.args.symbol found.item.place found.passes) in
    is ∙ c.requires.head r there row.to

pub row-preserved : goal.row-preserved
row-preserved g c =
    let valid = c.semiring-semiring.ensures.valid in
    let laws = g.S.Semiring.laws c.args.system.now.semiring in
    let first = c.args.first.now in
    let now = c.row.tables in
    let new = c.meet_call.new.tables in
    let onward = c.in_ok-meet_call.ensures.onward in
    let loop = c.row.invariant.0 in
    let return = c.requires.returns in
    let found = loop_at valid laws first (in_row c.args.control c.args.symbol) (CallsMet g.S.Semiring.operations c.args.system.now first c.args.k c.args.below c.args.end) c.args.tables.now c.requires.ready now c.row.at loop c.in-Some.t c.in-Some.is in (
      loop_goes_on valid laws first (in_row c.args.control c.args.symbol) (CallsMet g.S.Semiring.operations c.args.system.now first c.args.k c.args.below c.args.end) c.args.tables.now c.requires.ready now c.row.at loop c.in-Some.t
          c.in-Some.is new onward c.next_from-at.result (row_goes now.base new.base onward.numbers c.in-Some.t c.next_from-at.result c.args.control c.args.symbol found c.next_from-at.ensures.row)
          (λ x passes met. met_later valid laws first c.args.k return.rule return.there return.top c.args.below return.right now new loop.onward.ready onward x c.args.end met)
          (λ x there.
          let Q : Place → Type 0 = CallsMet g.S.Semiring.operations c.args.system.now first c.args.k c.args.below c.args.end new in
          subst Q (c.place-row.ensures there.0 there.1 ∙ there.2) c.in_ok-meet_call.ensures.met),
      c.in_ok-meet_call.ensures.hand ∙ c.row.invariant.1,
    )

pub row-smaller : goal.row-smaller
row-smaller g c =
    let valid = c.semiring-semiring.ensures.valid in
    let laws = g.S.Semiring.laws c.args.system.now.semiring in
    let first = c.args.first.now in
    let now = c.row.tables in
    let new = c.meet_call.new.tables in
    let found = loop_at valid laws first (in_row c.args.control c.args.symbol) (CallsMet g.S.Semiring.operations c.args.system.now first c.args.k c.args.below c.args.end) c.args.tables.now c.requires.ready now c.row.at c.row.invariant.0
    c.in-Some.t c.in-Some.is in
    loop_smaller valid laws first (in_row c.args.control c.args.symbol) (CallsMet g.S.Semiring.operations c.args.system.now first c.args.k c.args.below c.args.end) c.args.tables.now c.requires.ready now c.row.at c.row.invariant.0 c.in-Some.t
    c.in-Some.is new c.next_from-at.result (row_goes now.base new.base c.in_ok-meet_call.ensures.onward.numbers c.in-Some.t c.next_from-at.result c.args.control c.args.symbol found c.next_from-at.ensures.row)

pub returns-clause-onward : goal.returns-clause-onward
returns-clause-onward g c = c.row.invariant.0.onward

pub returns-clause-met : goal.returns-clause-met
returns-clause-met g c = λ r there n.
    let valid = c.semiring-semiring.ensures.valid in
    let laws = g.S.Semiring.laws c.args.system.now.semiring in
    let first = c.args.first.now in
    let now = c.row.tables in
    let return = c.requires.returns in
    let all = loop_ends valid laws first (in_row c.args.control c.args.symbol) (CallsMet g.S.Semiring.operations c.args.system.now first c.args.k c.args.below c.args.end) c.args.tables.now c.requires.ready now c.row.at c.row.invariant.0
    c.in_default.is
    (λ x none. call_counts_nothing valid laws first c.args.k return.rule return.there return.top c.args.below return.right now c.row.invariant.0.onward.ready x c.args.end
    (none_settled (g.S.Semiring.operations c.args.system.now.semiring) x now.base none))
    (arrow c.args.control (Symbol c.args.symbol) n) (row_itself c.args.control c.args.symbol n) in
    let P : Place → Type 0 = λ y. HasMet g.S.Semiring.operations c.args.system.now first now c.args.k c.args.below y c.args.end in
    subst P (c.requires.head r there n) all
