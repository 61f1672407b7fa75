use Rattle.std.proofs.Common.{refl, arith}
use Rattle.std.specs.Prelude.{option_map}
use Rattle.weight_tables.specs.Entries.{taken}
use Rattle.value_search.specs.Views.{found, place_at}
use Rattle.value_search.specs.Finds.{IsAt}
use Rattle.value_search.proofs.OnwardLemmas.{laid_only, laid_others}
use Rattle.value_search.proofs.TakeLemmas.{place_empty, place_there, pop_entry, pop_made, pop_tables, popped_at, popped_fewer, popped_nothing, popped_search, popped_settled}
use Rattle.value_search.proofs.search.take_next.Goals as goal

pub take-requires-clause-search : goal.take-requires-clause-search
take-requires-clause-search g c =
    let p = c.args.system.now in
    let s = g.S.Semiring.operations p.semiring in
    let law = g.S.Semiring.laws p.semiring in
    let valid = c.semiring-semiring.ensures.valid in
    let target = option_map (λ t. t.now) c.args.target in
    let old = c.args.tables.now in
    let new = c.pop.new.self in
    let t = c.in-Some.number in
    let list = c.layer-list.result in
    let is = c.layer-list.ensures in
    let made = pop_made target list is old new t c.in-Some.ensures.taken in
    let tables = pop_tables target list is old new t g.S.Semiring.operations p made c.requires.search.same c.valid.ensures.tables in
    let entry = c.in-Some.ensures.entry in
    let there = pop_entry target list is old new t entry.0 entry.1 in
    let x = c.place-place.result in
    let at_new = popped_at valid law target t old new c.requires.search made tables entry.0.place (entry.0, there, refl) in
    popped_search valid law target t old new c.requires.search made tables

pub take-requires-clause-at : goal.take-requires-clause-at
take-requires-clause-at g c =
    let p = c.args.system.now in
    let s = g.S.Semiring.operations p.semiring in
    let law = g.S.Semiring.laws p.semiring in
    let valid = c.semiring-semiring.ensures.valid in
    let target = option_map (λ t. t.now) c.args.target in
    let old = c.args.tables.now in
    let new = c.pop.new.self in
    let t = c.in-Some.number in
    let list = c.layer-list.result in
    let is = c.layer-list.ensures in
    let made = pop_made target list is old new t c.in-Some.ensures.taken in
    let tables = pop_tables target list is old new t g.S.Semiring.operations p made c.requires.search.same c.valid.ensures.tables in
    let entry = c.in-Some.ensures.entry in
    let there = pop_entry target list is old new t entry.0 entry.1 in
    let x = c.place-place.result in
    let at_new = popped_at valid law target t old new c.requires.search made tables entry.0.place (entry.0, there, refl) in
    let place = place_there target list is old new t x c.place-place.ensures c.in-Symbol.symbol c.in-Symbol.is entry.0.place at_new in
    let at : IsAt (found target old) t (place_at x.from c.in-Symbol.symbol x.to) = (entry.0, there, place) in
    popped_at valid law target t old new c.requires.search made tables (place_at x.from c.in-Symbol.symbol x.to) at

pub take-requires-clause-settled : goal.take-requires-clause-settled
take-requires-clause-settled g c =
    let p = c.args.system.now in
    let s = g.S.Semiring.operations p.semiring in
    let law = g.S.Semiring.laws p.semiring in
    let valid = c.semiring-semiring.ensures.valid in
    let target = option_map (λ t. t.now) c.args.target in
    let old = c.args.tables.now in
    let new = c.pop.new.self in
    let t = c.in-Some.number in
    let list = c.layer-list.result in
    let is = c.layer-list.ensures in
    let made = pop_made target list is old new t c.in-Some.ensures.taken in
    let tables = pop_tables target list is old new t g.S.Semiring.operations p made c.requires.search.same c.valid.ensures.tables in
    let entry = c.in-Some.ensures.entry in
    let there = pop_entry target list is old new t entry.0 entry.1 in
    let x = c.place-place.result in
    let at_new = popped_at valid law target t old new c.requires.search made tables entry.0.place (entry.0, there, refl) in
    let place = place_there target list is old new t x c.place-place.ensures c.in-Symbol.symbol c.in-Symbol.is entry.0.place at_new in
    let at : IsAt (found target old) t (place_at x.from c.in-Symbol.symbol x.to) = (entry.0, there, place) in
    popped_settled valid law target t old new c.requires.search made tables x.from c.in-Symbol.symbol x.to at c.requires.settled

pub returns-in_ok-take-in-Symbol-clause-others : goal.returns-in_ok-take-in-Symbol-clause-others
returns-in_ok-take-in-Symbol-clause-others g c =
    let p = c.args.system.now in
    let s = g.S.Semiring.operations p.semiring in
    let law = g.S.Semiring.laws p.semiring in
    let valid = c.semiring-semiring.ensures.valid in
    let target = option_map (λ t. t.now) c.args.target in
    let old = c.args.tables.now in
    let new = c.pop.new.self in
    let t = c.in-Some.number in
    let list = c.layer-list.result in
    let is = c.layer-list.ensures in
    let made = pop_made target list is old new t c.in-Some.ensures.taken in
    let tables = pop_tables target list is old new t g.S.Semiring.operations p made c.requires.search.same c.valid.ensures.tables in
    let entry = c.in-Some.ensures.entry in
    let there = pop_entry target list is old new t entry.0 entry.1 in
    let x = c.place-place.result in
    let at_new = popped_at valid law target t old new c.requires.search made tables entry.0.place (entry.0, there, refl) in
    laid_others target old new c.take.new.tables (taken t (found target old)) made c.in_ok-take-in-Symbol.ensures.onward.others

pub returns-in_ok-take-in-Symbol-clause-fewer : goal.returns-in_ok-take-in-Symbol-clause-fewer
returns-in_ok-take-in-Symbol-clause-fewer g c = λ _.
    let p = c.args.system.now in
    let s = g.S.Semiring.operations p.semiring in
    let law = g.S.Semiring.laws p.semiring in
    let valid = c.semiring-semiring.ensures.valid in
    let target = option_map (λ t. t.now) c.args.target in
    let old = c.args.tables.now in
    let new = c.pop.new.self in
    let t = c.in-Some.number in
    let list = c.layer-list.result in
    let is = c.layer-list.ensures in
    let made = pop_made target list is old new t c.in-Some.ensures.taken in
    let tables = pop_tables target list is old new t g.S.Semiring.operations p made c.requires.search.same c.valid.ensures.tables in
    let entry = c.in-Some.ensures.entry in
    let there = pop_entry target list is old new t entry.0 entry.1 in
    let x = c.place-place.result in
    let at_new = popped_at valid law target t old new c.requires.search made tables entry.0.place (entry.0, there, refl) in
    let one = popped_fewer valid law target t old new c.requires.search made tables entry.0 there entry.2 in
    let two = c.in_ok-take-in-Symbol.ensures.onward.fewer in
    omega (arith, one, two)

pub returns-in-Empty-clause-search : goal.returns-in-Empty-clause-search
returns-in-Empty-clause-search g c =
    let p = c.args.system.now in
    let s = g.S.Semiring.operations p.semiring in
    let law = g.S.Semiring.laws p.semiring in
    let valid = c.semiring-semiring.ensures.valid in
    let target = option_map (λ t. t.now) c.args.target in
    let old = c.args.tables.now in
    let new = c.pop.new.self in
    let t = c.in-Some.number in
    let list = c.layer-list.result in
    let is = c.layer-list.ensures in
    let made = pop_made target list is old new t c.in-Some.ensures.taken in
    let tables = pop_tables target list is old new t g.S.Semiring.operations p made c.requires.search.same c.valid.ensures.tables in
    let entry = c.in-Some.ensures.entry in
    let there = pop_entry target list is old new t entry.0 entry.1 in
    let x = c.place-place.result in
    let at_new = popped_at valid law target t old new c.requires.search made tables entry.0.place (entry.0, there, refl) in
    popped_search valid law target t old new c.requires.search made tables

pub returns-in-Empty-clause-settled : goal.returns-in-Empty-clause-settled
returns-in-Empty-clause-settled g c =
    let p = c.args.system.now in
    let s = g.S.Semiring.operations p.semiring in
    let law = g.S.Semiring.laws p.semiring in
    let valid = c.semiring-semiring.ensures.valid in
    let target = option_map (λ t. t.now) c.args.target in
    let old = c.args.tables.now in
    let new = c.pop.new.self in
    let t = c.in-Some.number in
    let list = c.layer-list.result in
    let is = c.layer-list.ensures in
    let made = pop_made target list is old new t c.in-Some.ensures.taken in
    let tables = pop_tables target list is old new t g.S.Semiring.operations p made c.requires.search.same c.valid.ensures.tables in
    let entry = c.in-Some.ensures.entry in
    let there = pop_entry target list is old new t entry.0 entry.1 in
    let x = c.place-place.result in
    let at_new = popped_at valid law target t old new c.requires.search made tables entry.0.place (entry.0, there, refl) in
    popped_nothing valid law target t old new c.requires.search made tables entry.0 there (place_empty target list is old new t x c.place-place.ensures c.in-Empty.is entry.0.place at_new) c.requires.settled

pub returns-in-Empty-clause-others : goal.returns-in-Empty-clause-others
returns-in-Empty-clause-others g c =
    let p = c.args.system.now in
    let s = g.S.Semiring.operations p.semiring in
    let law = g.S.Semiring.laws p.semiring in
    let valid = c.semiring-semiring.ensures.valid in
    let target = option_map (λ t. t.now) c.args.target in
    let old = c.args.tables.now in
    let new = c.pop.new.self in
    let t = c.in-Some.number in
    let list = c.layer-list.result in
    let is = c.layer-list.ensures in
    let made = pop_made target list is old new t c.in-Some.ensures.taken in
    let tables = pop_tables target list is old new t g.S.Semiring.operations p made c.requires.search.same c.valid.ensures.tables in
    let entry = c.in-Some.ensures.entry in
    let there = pop_entry target list is old new t entry.0 entry.1 in
    let x = c.place-place.result in
    let at_new = popped_at valid law target t old new c.requires.search made tables entry.0.place (entry.0, there, refl) in
    laid_only target old new (taken t (found target old)) made

pub returns-in-Empty-clause-fewer : goal.returns-in-Empty-clause-fewer
returns-in-Empty-clause-fewer g c = λ _.
    let p = c.args.system.now in
    let s = g.S.Semiring.operations p.semiring in
    let law = g.S.Semiring.laws p.semiring in
    let valid = c.semiring-semiring.ensures.valid in
    let target = option_map (λ t. t.now) c.args.target in
    let old = c.args.tables.now in
    let new = c.pop.new.self in
    let t = c.in-Some.number in
    let list = c.layer-list.result in
    let is = c.layer-list.ensures in
    let made = pop_made target list is old new t c.in-Some.ensures.taken in
    let tables = pop_tables target list is old new t g.S.Semiring.operations p made c.requires.search.same c.valid.ensures.tables in
    let entry = c.in-Some.ensures.entry in
    let there = pop_entry target list is old new t entry.0 entry.1 in
    let x = c.place-place.result in
    let at_new = popped_at valid law target t old new c.requires.search made tables entry.0.place (entry.0, there, refl) in
    popped_fewer valid law target t old new c.requires.search made tables entry.0 there entry.2
