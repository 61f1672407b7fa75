use Rattle.std.proofs.Common.{◌≤◌, ℕ, sym, ◌∙◌, subst}
use Rattle.walk_pairs.specs.declared.pairs.Stage.TheVariants.{Down}
use Rattle.walk_pairs.specs.Pairs.{pair_place}
use Rattle.forward_value_walk.specs.Walking.{is_stop}
use Rattle.forward_value_walk.proofs.GoingLemmas.{walkable_of, within_of}
use Rattle.forward_value_walk.proofs.GivenLemmas.{pair_read, pair_given}
use Rattle.forward_value_walk.proofs.giving.give_pair.Goals as goal

pub hold-requires : goal.hold-requires
hold-requires g c = within_of c.args.t (pair_place Down c.args.state c.args.source) c.args.tables.now.walk c.requires.entry

pub returns-then-source-items : goal.returns-then-source-items
returns-then-source-items g c =
    let a = c.args in
    let v = a.tables.now in
    let walkable = walkable_of g.S.Semiring.operations a.first.now a.wanted.now v c.valid.ensures.system c.valid.ensures.tables c.requires.finished c.requires.made in
    let stands = c.requires.entry in
    let P : ℕ → Type 0 = λ n. a.source ≤ n in
    pair_read g.S.Semiring.operations (λ x. g.S.Semiring.laws x) a.first.now a.wanted.now v walkable c.valid.ensures.tables.walk.distinct a.state a.source a.t stands c.hold.new.self c.read_on.new.tables
    (c.in_ok-hold.ensures.ok stands.0 stands.1) c.in_ok-read_on.ensures (is_stop a.stop) (sym c.stops_at.ensures ∙ c.if-stops_at.false) (subst P c.items.ensures.value c.if-source-items.true)

pub returns : goal.returns
returns g c =
    let a = c.args in
    let v = a.tables.now in
    let walkable = walkable_of g.S.Semiring.operations a.first.now a.wanted.now v c.valid.ensures.system c.valid.ensures.tables c.requires.finished c.requires.made in
    let stands = c.requires.entry in
    pair_given g.S.Semiring.operations (λ x. g.S.Semiring.laws x) a.first.now a.wanted.now v walkable c.valid.ensures.tables.walk.distinct a.state a.source a.t stands c.hold.new.self c.read_on.new.tables
    (c.in_ok-hold.ensures.ok stands.0 stands.1) c.in_ok-read_on.ensures (is_stop a.stop) (sym c.stops_at.ensures ∙ c.if-stops_at.false) c.read_state.new.tables c.in_ok-read_state.ensures
