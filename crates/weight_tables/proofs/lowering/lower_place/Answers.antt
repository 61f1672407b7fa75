use Rattle.std.proofs.Common.{◌≡◌, ◌<◌, ℕ, ◌+◌, Bool, true, false, List, [], ◌∷◌, ◌++◌, length, set, refl, sym, ap, ◌∙◌, subst, arith}
use Rattle.std.specs.Prelude.{Some, None, IfSome, slice_get}
use Rattle.weight_tables.specs.Entries.{TableEntry, index_at, index_where}
use Rattle.weighted_automata.specs.Places.{same_place}
use Rattle.std.proofs.lemmas.Result.{on_ok_weaker}
use Rattle.weight_tables.proofs.FitLemmas.{some_of, none_of}
use Rattle.weight_tables.proofs.IndexLemmas.{index_where-within}
use Rattle.weight_tables.specs.private.Kept.{AllKnown, valued}
use Rattle.weight_tables.proofs.ValueLemmas.{known_append, added_lowered, lowered_there, nothing_lowered, grows_itself, not_zero}
use Rattle.weight_tables.proofs.lowering.lower_place.Goals as goal

pub returns-then-is_zero-clause-grows : goal.returns-then-is_zero-clause-grows
returns-then-is_zero-clause-grows g c = grows_itself g.M.Weigher.pushdown g.M.Weigher.Knows g.M.Weigher.worth c.args.weigher.now

pub returns-then-is_zero-clause-ok : goal.returns-then-is_zero-clause-ok
returns-then-is_zero-clause-ok g c =
    nothing_lowered (g.S.Semiring.operations (g.M.Weigher.pushdown c.args.weigher.now).semiring) (g.S.Semiring.laws (g.M.Weigher.pushdown c.args.weigher.now).semiring) (g.M.Weigher.Knows c.args.weigher.now) (g.M.Weigher.worth c.args.weigher.now) (λ w k. g.met.M.Weigher.fits c.args.weigher.now w k) c.args.list.now c.requires.list c.args.place ((g.M.Weigher.worth c.args.weigher.now) c.args.weight) (c.is_zero.ensures.0 c.if-is_zero.true)

pub lower_entry-requires-clause-list : goal.lower_entry-requires-clause-list
lower_entry-requires-clause-list g c =
    subst (AllKnown (g.M.Weigher.Knows c.args.weigher.now)) (sym (some_of (λ _. c.meet.new.self ≡ c.args.list.now) _ c.in-Some.met c.in-Some.is c.in_ok-found.ensures.stays)) c.requires.list

pub lower_entry-requires-clause-weight : goal.lower_entry-requires-clause-weight
lower_entry-requires-clause-weight g c =
    subst (g.M.Weigher.Knows c.args.weigher.now) (sym (some_of (λ m. m.weight ≡ c.args.weight) _ c.in-Some.met c.in-Some.is c.in_ok-found.ensures.weight)) c.requires.weight

pub lower_entry-requires-clause-number : goal.lower_entry-requires-clause-number
lower_entry-requires-clause-number g c =
    let there : index_at c.args.place c.args.list.now ≡ Some c.in-Some.met.number = some_of (λ m. index_at c.args.place c.args.list.now ≡ Some m.number) _ c.in-Some.met c.in-Some.is c.in_ok-found.ensures.met in
    let same : c.meet.new.self ≡ c.args.list.now = some_of (λ _. c.meet.new.self ≡ c.args.list.now) _ c.in-Some.met c.in-Some.is c.in_ok-found.ensures.stays in
    subst (λ (es : List (TableEntry _)). c.in-Some.met.number < length es) (sym same) (index_where-within (λ (e : TableEntry _). same_place e.place c.args.place) c.args.list.now c.in-Some.met.number there)

pub returns-in-Some-clause-ok : goal.returns-in-Some-clause-ok
returns-in-Some-clause-ok g c =
    let there : index_at c.args.place c.args.list.now ≡ Some c.in-Some.met.number = some_of (λ m. index_at c.args.place c.args.list.now ≡ Some m.number) _ c.in-Some.met c.in-Some.is c.in_ok-found.ensures.met in
    let same : c.meet.new.self ≡ c.args.list.now = some_of (λ _. c.meet.new.self ≡ c.args.list.now) _ c.in-Some.met c.in-Some.is c.in_ok-found.ensures.stays in
    let weight = some_of (λ m. m.weight ≡ c.args.weight) _ c.in-Some.met c.in-Some.is c.in_ok-found.ensures.weight in
    on_ok_weaker c.lower_entry.result (λ h. lowered_there (g.S.Semiring.operations (g.M.Weigher.pushdown c.args.weigher.now).semiring) (g.M.Weigher.worth c.args.weigher.now) c.meet.new.self c.args.list.now same c.args.place c.in-Some.met.number there
    (index_where-within (λ (e : TableEntry _). same_place e.place c.args.place) c.args.list.now c.in-Some.met.number there) _ _ (ap (g.M.Weigher.worth c.args.weigher.now) weight) _ h) c.lower_entry.ensures.ok

pub returns-in-None-clause-known : goal.returns-in-None-clause-known
returns-in-None-clause-known g c =
    let added = none_of _ _ c.in-None.is c.in_ok-found.ensures.added in
    subst (AllKnown (g.M.Weigher.Knows c.args.weigher.now)) (sym added) (known_append (g.M.Weigher.Knows c.args.weigher.now) c.args.list.now (record { place = c.args.place; weight = c.args.weight; waits = true }) c.requires.list c.requires.weight)

pub returns-in-None-clause-ok : goal.returns-in-None-clause-ok
returns-in-None-clause-ok g c =
    let added = none_of _ _ c.in-None.is c.in_ok-found.ensures.added in
    let absent = none_of _ _ c.in-None.is c.in_ok-found.ensures.none in
    ap (valued (g.M.Weigher.worth c.args.weigher.now)) added
    ∙ added_lowered (g.S.Semiring.operations (g.M.Weigher.pushdown c.args.weigher.now).semiring) (g.M.Weigher.worth c.args.weigher.now) (g.M.Weigher.worth c.args.weigher.now) (g.M.Weigher.Knows c.args.weigher.now) (λ w k. let e : (g.M.Weigher.worth c.args.weigher.now) w ≡ (g.M.Weigher.worth c.args.weigher.now) w = refl in e) c.args.list.now c.requires.list (g.S.Semiring.laws (g.M.Weigher.pushdown c.args.weigher.now).semiring) c.args.place c.args.weight ((g.M.Weigher.worth c.args.weigher.now) c.args.weight) absent
    (not_zero _ _ c.is_zero.ensures c.if-is_zero.false) (g.met.M.Weigher.fits c.args.weigher.now c.args.weight c.requires.weight) refl

pub returns-in_err-found-clause-known : goal.returns-in_err-found-clause-known
returns-in_err-found-clause-known g c = subst (AllKnown (g.M.Weigher.Knows c.args.weigher.now)) (sym c.in_err-found.ensures.err) c.requires.list
