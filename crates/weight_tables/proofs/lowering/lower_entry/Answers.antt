use Rattle.std.proofs.Common.{◌≡◌, ◌<◌, ℕ, ◌+◌, Bool, true, false, List, [], ◌∷◌, ◌++◌, length, set, refl, sym, ap, ◌∙◌, subst, arith}
use Rattle.std.specs.Prelude.{Some, None, IfSome, slice_get}
use Rattle.std.specs.Prelude.{option_map}
use Rattle.semiring_laws.specs.Lowering.{lowered_weight}
use Rattle.std.proofs.lemmas.Result.{on_ok_weaker}
use Rattle.weight_tables.proofs.FitLemmas.{some_of}
use Rattle.weight_tables.specs.private.Cells.{changed}
use Rattle.weight_tables.proofs.ValueLemmas.{known_at, known_changed, known_result, same_lowered, changed_lowered, valued_same}
use Rattle.weight_tables.specs.private.Kept.{valued}
use Rattle.weight_tables.proofs.LayerLemmas.{all_grown}
use Rattle.weight_tables.proofs.lowering.lower_entry.Goals as goal

pub lowered-requires-clause-old : goal.lowered-requires-clause-old
lowered-requires-clause-old g c =
    let x = c.weight.ensures in
    subst (g.M.Weigher.Knows c.args.weigher.now) (sym x.2) (known_at (g.M.Weigher.Knows c.args.weigher.now) c.args.list.now c.args.t x.0 c.requires.list x.1)

pub returns-in_err-made-clause-known : goal.returns-in_err-made-clause-known
returns-in_err-made-clause-known g c = all_grown c.lowered.ensures.grows c.args.list.now c.requires.list

pub returns-in-Some-clause-known : goal.returns-in-Some-clause-known
returns-in-Some-clause-known g c =
    let Known = (g.M.Weigher.Knows c.lowered.new.self) in
    let all = all_grown c.lowered.ensures.grows c.args.list.now c.requires.list in
    let known : Known c.in-Some.sum = some_of Known _ c.in-Some.sum c.in-Some.is c.in_ok-made.ensures.known in
    known_result Known c.write.result c.args.list.now (changed c.args.t c.in-Some.sum c.args.list.now) c.write.new.self c.write.ensures.ok c.write.ensures.err all (known_changed Known c.args.t c.in-Some.sum c.args.list.now all known)

pub returns-in-Some-clause-ok : goal.returns-in-Some-clause-ok
returns-in-Some-clause-ok g c =
    let s = (g.S.Semiring.operations (g.M.Weigher.pushdown c.args.weigher.now).semiring) in
    let old = (g.M.Weigher.worth c.args.weigher.now) in
    let new = (g.M.Weigher.worth c.lowered.new.self) in
    let w = old c.args.weight.now in
    let x = c.weight.ensures in
    let made : Some (new c.in-Some.sum) ≡ lowered_weight s (old x.0.weight) w =
    ap (option_map new) (sym c.in-Some.is) ∙ c.in_ok-made.ensures.worth ∙ ap (λ z. lowered_weight s (old z) w) x.2 in
    on_ok_weaker c.write.result (λ is. λ e there first. ap (valued new) is
    ∙ changed_lowered s old new (g.M.Weigher.Knows c.args.weigher.now) c.lowered.ensures.grows.stays c.args.list.now c.requires.list c.args.t x.0 x.1 w c.in-Some.sum made e there first) c.write.ensures.ok

pub returns-in-None-clause-known : goal.returns-in-None-clause-known
returns-in-None-clause-known g c = all_grown c.lowered.ensures.grows c.args.list.now c.requires.list

pub returns-in-None-clause-ok : goal.returns-in-None-clause-ok
returns-in-None-clause-ok g c =
    let s = (g.S.Semiring.operations (g.M.Weigher.pushdown c.args.weigher.now).semiring) in
    let old = (g.M.Weigher.worth c.args.weigher.now) in
    let new = (g.M.Weigher.worth c.lowered.new.self) in
    let w = old c.args.weight.now in
    let x = c.weight.ensures in
    let made : None ≡ lowered_weight s (old x.0.weight) w =
    ap (option_map new) (sym c.in-None.is) ∙ c.in_ok-made.ensures.worth ∙ ap (λ z. lowered_weight s (old z) w) x.2 in
    same_lowered s old new (g.M.Weigher.Knows c.args.weigher.now) c.lowered.ensures.grows.stays c.args.list.now c.requires.list c.args.t x.0 x.1 w made
