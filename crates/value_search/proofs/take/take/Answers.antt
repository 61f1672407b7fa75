use Rattle.std.specs.Prelude.{option_map}
use Rattle.value_search.specs.Views.{found, place_at}
use Rattle.value_search.proofs.OnwardLemmas.{found_table, onward_then}
use Rattle.value_search.proofs.MeetLemmas.{onto_later}
use Rattle.value_search.proofs.TakeLemmas.{at_later, taken_settles}
use Rattle.value_search.proofs.take.take.Goals as goal

pub meet_row_over-requires-clause-at : goal.meet_row_over-requires-clause-at
meet_row_over-requires-clause-at g c =
    let p = c.args.system.now in
    let s = g.S.Semiring.operations p.semiring in
    let target = option_map (λ t. t.now) c.args.target in
    at_later s p target c.args.tables.now c.meet_row_onto.new.tables c.in_ok-meet_row_onto.ensures.onward c.args.at.number (place_at c.args.at.from c.args.at.symbol c.args.at.to) c.requires.at

pub returns-clause-onward : goal.returns-clause-onward
returns-clause-onward g c =
    let p = c.args.system.now in
    let law = g.S.Semiring.laws p.semiring in
    let valid = c.semiring-semiring.ensures.valid in
    let target = option_map (λ t. t.now) c.args.target in
    onward_then valid law target c.args.tables.now c.meet_row_onto.new.tables c.meet_row_over.new.tables c.requires.search c.in_ok-meet_row_onto.ensures.onward c.in_ok-meet_row_over.ensures.onward

pub returns-clause-settled : goal.returns-clause-settled
returns-clause-settled g c =
    let p = c.args.system.now in
    let s = g.S.Semiring.operations p.semiring in
    let law = g.S.Semiring.laws p.semiring in
    let valid = c.semiring-semiring.ensures.valid in
    let target = option_map (λ t. t.now) c.args.target in
    let old = c.args.tables.now in
    let mid = c.meet_row_onto.new.tables in
    let new = c.meet_row_over.new.tables in
    let one = c.in_ok-meet_row_onto.ensures.onward in
    let two = c.in_ok-meet_row_over.ensures.onward in
    let both = onward_then valid law target old mid new c.requires.search one two in
    taken_settles valid law target c.args.at.from c.args.at.symbol c.args.at.to old new c.requires.search both c.requires.settled
    (λ k. onto_later valid law (found target mid) (found target new) (found_table valid law target mid one.search.tables) (found_table valid law target new two.search.tables) two.further
    target k c.args.at.from c.args.at.symbol c.args.at.to (c.in_ok-meet_row_onto.ensures.met k))
    c.in_ok-meet_row_over.ensures.met
