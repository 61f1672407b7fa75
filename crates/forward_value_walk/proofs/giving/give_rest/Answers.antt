use Rattle.std.proofs.Common.{◌≡◌, sym, ap, ◌∙◌, subst}
use Rattle.std.specs.Prelude.{None, Some, slice_get}
use Rattle.weighted_automata.specs.declared.place.Place.{Place}
use Rattle.weight_tables.specs.Entries.{index_at, lowered_in}
use Rattle.weight_tables.specs.Tables.{TablesValue, with_entries}
use Rattle.weight_tables.specs.declared.layer.Layer.TheVariants.{Walk}
use Rattle.walk_pairs.specs.declared.pairs.Stage.TheVariants.{Down}
use Rattle.walk_pairs.specs.Pairs.{pair_place, answer_place}
use Rattle.forward_value_walk.specs.Walking.{is_stop}
use Rattle.forward_value_walk.proofs.OpeningLemmas.{entry_at}
use Rattle.forward_value_walk.proofs.GoingLemmas.{walkable_of, within_of}
use Rattle.forward_value_walk.proofs.GivenLemmas.{no_rest, rest_given}
use Rattle.forward_value_walk.proofs.giving.give_rest.Goals as goal

pub hold-requires : goal.hold-requires
hold-requires g c = within_of c.args.t (pair_place Down c.args.state c.args.source) c.args.tables.now.walk c.requires.entry

pub returns-in_default : goal.returns-in_default
returns-in_default g c =
    let a = c.args in
    let v = a.tables.now in
    let walkable = walkable_of g.S.Semiring.operations a.first.now a.wanted.now v c.valid.ensures.system c.valid.ensures.tables c.requires.finished c.requires.made in
    let P : Place → Type 0 = λ x. index_at x v.target ≡ None in
    no_rest g.S.Semiring.operations (λ x. g.S.Semiring.laws x) a.first.now a.wanted.now v walkable c.valid.ensures.tables.walk.distinct a.state a.source a.t c.requires.entry (is_stop a.stop) c.requires.stop c.requires.stopped
    c.valid.ensures.tables.target.fits (subst P c.tail_place.ensures (sym c.find.ensures.number ∙ c.in_default.is))

pub returns : goal.returns
returns g c =
    let a = c.args in
    let v = a.tables.now in
    let walkable = walkable_of g.S.Semiring.operations a.first.now a.wanted.now v c.valid.ensures.system c.valid.ensures.tables c.requires.finished c.requires.made in
    let n = c.in-Some.n in
    let entry = entry_at v.target n c.in-Some.ensures.within in
    let P : Place → Type 0 = λ x. index_at x v.target ≡ Some n in
    let found = subst P c.tail_place.ensures (sym c.find.ensures.number ∙ c.in-Some.is) in
    let e = c.requires.entry.0 in
    let held = c.in_ok-hold.ensures.ok e c.requires.entry.1 in
    let target = ap (λ (u : TablesValue g.row.S.Denot g.row.S-W.Denot g.row.S-Ret.Denot). slice_get u.target n) held ∙ entry.1 in
    let F = λ (x : Place) (u : TablesValue g.row.S.Denot g.row.S-W.Denot g.row.S-Ret.Denot). with_entries Walk (lowered_in (g.S.Semiring.operations u.system.semiring) x ((g.S.Semiring.operations u.system.semiring).extend entry.0.weight u.hand) u.walk) u in
    let made = c.in_ok-lower_after.ensures.ok entry.0 target ∙ ap (λ (x : Place). F x c.hold.new.self) c.answer_place.ensures ∙ ap (F answer_place) held in
    rest_given g.S.Semiring.operations (λ x. g.S.Semiring.laws x) a.first.now a.wanted.now v walkable c.valid.ensures.tables.walk.distinct a.state a.source a.t c.requires.entry (is_stop a.stop) c.requires.stop c.requires.stopped
    c.valid.ensures.tables.target.fits n entry.0 found entry.1 c.lower_after.new.self made
