use Rattle.std.proofs.Common.{◌≡◌, ◌<◌, ℕ, ◌+◌, Bool, true, false, List, [], ◌∷◌, ◌++◌, length, set, refl, sym, ap, ◌∙◌, subst, arith}
use Rattle.std.specs.Prelude.{Some, None, IfSome, slice_get}
use Rattle.weight_tables.specs.Entries.{TableEntry, index_at}
use Rattle.std.proofs.lemmas.Result.{on_ok_weaker}
use Rattle.weight_tables.specs.private.Kept.{valued}
use Rattle.weight_tables.proofs.ValueLemmas.{known_append, known_result, added_lowered, lowered_there, nothing_lowered, grows_itself, not_zero}
use Rattle.weight_tables.proofs.LayerLemmas.{all_grown}
use Rattle.weight_tables.proofs.lowering.lower_place_by.Goals as goal

pub returns-then-is_zero-clause-grows : goal.returns-then-is_zero-clause-grows
returns-then-is_zero-clause-grows g c = grows_itself g.M.Weigher.pushdown g.M.Weigher.Knows g.M.Weigher.worth c.args.weigher.now

pub returns-then-is_zero-clause-ok : goal.returns-then-is_zero-clause-ok
returns-then-is_zero-clause-ok g c =
    nothing_lowered (g.S.Semiring.operations (g.M.Weigher.pushdown c.args.weigher.now).semiring) (g.S.Semiring.laws (g.M.Weigher.pushdown c.args.weigher.now).semiring) (g.M.Weigher.Knows c.args.weigher.now) (g.M.Weigher.worth c.args.weigher.now) (λ w k. g.met.M.Weigher.fits c.args.weigher.now w k) c.args.list.now c.requires.list c.args.place ((g.M.Weigher.worth c.args.weigher.now) c.args.weight.now) (c.is_zero.ensures.0 c.if-is_zero.true)

pub returns-in-Some-clause-ok : goal.returns-in-Some-clause-ok
returns-in-Some-clause-ok g c =
    on_ok_weaker c.lower_entry.result (λ h. lowered_there (g.S.Semiring.operations (g.M.Weigher.pushdown c.args.weigher.now).semiring) (g.M.Weigher.worth c.args.weigher.now) c.args.list.now c.args.list.now refl c.args.place c.in-Some.t (sym c.in-Some.ensures.number) c.in-Some.ensures.within _ _ refl _ h) c.lower_entry.ensures.ok

pub returns-in_err-copy-in-None-clause-known : goal.returns-in_err-copy-in-None-clause-known
returns-in_err-copy-in-None-clause-known g c = all_grown c.copy.ensures.grows c.args.list.now c.requires.list

pub returns-in_ok-copy-in-None-clause-known : goal.returns-in_ok-copy-in-None-clause-known
returns-in_ok-copy-in-None-clause-known g c =
    let Known = (g.M.Weigher.Knows c.copy.new.self) in
    let all = all_grown c.copy.ensures.grows c.args.list.now c.requires.list in
    let entry : TableEntry _ = record { place = c.args.place; weight = c.in_ok-copy-in-None.copy; waits = true } in
    known_result Known c.add.result c.args.list.now (c.args.list.now ++ entry ∷ []) c.add.new.self c.add.ensures.ok c.add.ensures.err all (known_append Known c.args.list.now entry all c.in_ok-copy-in-None.ensures.known)

pub returns-in_ok-copy-in-None-clause-ok : goal.returns-in_ok-copy-in-None-clause-ok
returns-in_ok-copy-in-None-clause-ok g c =
    let new = (g.M.Weigher.worth c.copy.new.self) in
    on_ok_weaker c.add.result (λ is. ap (valued new) is
    ∙ added_lowered (g.S.Semiring.operations (g.M.Weigher.pushdown c.args.weigher.now).semiring) (g.M.Weigher.worth c.args.weigher.now) new (g.M.Weigher.Knows c.args.weigher.now) c.copy.ensures.grows.stays c.args.list.now c.requires.list (g.S.Semiring.laws (g.M.Weigher.pushdown c.args.weigher.now).semiring) c.args.place c.in_ok-copy-in-None.copy ((g.M.Weigher.worth c.args.weigher.now) c.args.weight.now) (sym c.in-None.ensures.number)
    (not_zero _ _ c.is_zero.ensures c.if-is_zero.false) (g.met.M.Weigher.fits c.args.weigher.now c.args.weight.now c.requires.weight) c.in_ok-copy-in-None.ensures.worth) c.add.ensures.ok
