use Rattle.std.proofs.Common.{◌≡◌, List, ◌++◌, ◌∙◌, length, map, sym, ap, subst}
use Rattle.std.specs.Prelude.{All}
use Rattle.saturation_laws.specs.States.{Change, apply_all, change_of}
use Rattle.saturation_laws.specs.Ways.{jobs_of_place}
use Rattle.saturation_core.specs.private.Steps.{IsFitChange, with_hands}
use Rattle.saturation_core.proofs.TurnBook.{apply_listed}
use Rattle.saturation_core.proofs.found.Found.apply_place.Goals as goal

pub apply_changes-requires-clause-fit : goal.apply_changes-requires-clause-fit
apply_changes-requires-clause-fit g c =
    let p = c.args.system.now in
    let s = g.S.Semiring.operations p.semiring in
    let d = g.D.Direction.way.tables c.args.direction.now p in
    let js = jobs_of_place g.S.Semiring.operations g.D.Direction.way c.args.direction.now p c.args.taken.place c.args.self.now.transitions.transitions in
    let listed : c.as_slice.result.now ≡ map (change_of s d) js =
    c.as_slice.ensures.value ∙ c.in_ok-list_changes.ensures ∙ ap (λ cs. cs ++ map (change_of s d) js) c.clear.ensures.items in
    let m = length c.args.self.now.graph.nodes in
    let P : List (Change g.row.S-W.Denot) → Type 0 = All (IsFitChange s m) in
    let Q : g.row.S.Denot → Type 0 = λ z. All (IsFitChange (g.S.Semiring.operations z) m) c.as_slice.result.now in
    subst Q (sym c.semiring.ensures.value) (subst P (sym listed) c.requires.fit)

pub returns-clause-state : goal.returns-clause-state
returns-clause-state g c = λ hands.
    let p = c.args.system.now in
    let s = g.S.Semiring.operations p.semiring in
    let d = g.D.Direction.way.tables c.args.direction.now p in
    let js = jobs_of_place g.S.Semiring.operations g.D.Direction.way c.args.direction.now p c.args.taken.place c.args.self.now.transitions.transitions in
    let listed : c.as_slice.result.now ≡ map (change_of s d) js =
    c.as_slice.ensures.value ∙ c.in_ok-list_changes.ensures ∙ ap (λ cs. cs ++ map (change_of s d) js) c.clear.ensures.items in
    let st = with_hands c.args.self.now hands in
    c.in_ok-apply_changes.ensures.state hands
    ∙ ap (λ z. apply_all (g.S.Semiring.operations z) c.as_slice.result.now st) c.semiring.ensures.value
    ∙ ap (λ cs. apply_all s cs st) listed ∙ apply_listed s d js st
