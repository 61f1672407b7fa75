use Rattle.walk_pairs.specs.declared.pairs.Stage.TheVariants.{Before}
use Rattle.walk_pairs.specs.Pairs.{pair_place}
use Rattle.forward_value_walk.proofs.GoingLemmas.{walkable_of, within_of}
use Rattle.forward_value_walk.proofs.GivenLemmas.{items_given}
use Rattle.forward_value_walk.proofs.giving.give_items.Goals as goal

pub hold-requires : goal.hold-requires
hold-requires g c = within_of c.args.t (pair_place Before c.args.k c.args.l) c.args.tables.now.walk c.requires.entry

pub returns : goal.returns
returns g c =
    let a = c.args in
    let v = a.tables.now in
    let walkable = walkable_of g.S.Semiring.operations a.first.now a.wanted.now v c.valid.ensures.system c.valid.ensures.tables c.requires.finished c.requires.made in
    let stands = c.requires.entry in
    items_given g.S.Semiring.operations (λ x. g.S.Semiring.laws x) a.first.now a.wanted.now v walkable c.valid.ensures.tables.walk.distinct a.k a.l a.t stands c.hold.new.self c.read_items.new.tables
    (c.in_ok-hold.ensures.ok stands.0 stands.1) c.in_ok-read_items.ensures
