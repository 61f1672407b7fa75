use Rattle.walk_pairs.specs.declared.pairs.Stage.TheVariants.{Above}
use Rattle.walk_pairs.specs.Pairs.{pair_place}
use Rattle.forward_value_walk.proofs.GoingLemmas.{walkable_of, within_of, gone_walkable, gone_stands}
use Rattle.forward_value_walk.proofs.GivenLemmas.{before_calls, above_given}
use Rattle.forward_value_walk.proofs.giving.give_above.Goals as goal

pub hold-requires : goal.hold-requires
hold-requires g c = within_of c.args.t (pair_place Above c.args.item c.args.source) c.args.tables.now.walk c.requires.entry

pub open_calls-requires : goal.open_calls-requires
open_calls-requires g c =
    let a = c.args in
    let v = a.tables.now in
    let v2 = c.skip_item.new.tables in
    let walkable = walkable_of g.S.Semiring.operations a.first.now a.wanted.now v c.valid.ensures.system c.valid.ensures.tables c.requires.finished c.requires.made in
    let stands = c.requires.entry in
    let gone = before_calls g.S.Semiring.operations (λ x. g.S.Semiring.laws x) a.first.now a.wanted.now v walkable c.valid.ensures.tables.walk.distinct a.item a.source a.t stands c.hold.new.self v2
    (c.in_ok-hold.ensures.ok stands.0 stands.1) c.in_ok-skip_item.ensures in
    let later = gone_walkable g.S.Semiring.operations (λ x. g.S.Semiring.laws x) a.first.now a.wanted.now v v2 walkable gone in
    record {
      entry = gone_stands g.S.Semiring.operations (λ x. g.S.Semiring.laws x) a.first.now a.wanted.now v v2 walkable gone a.t (pair_place Above a.item a.source) stands;
      finished = later.finished;
      made = later.made;
    }

pub returns : goal.returns
returns g c =
    let a = c.args in
    let v = a.tables.now in
    let walkable = walkable_of g.S.Semiring.operations a.first.now a.wanted.now v c.valid.ensures.system c.valid.ensures.tables c.requires.finished c.requires.made in
    let stands = c.requires.entry in
    above_given g.S.Semiring.operations (λ x. g.S.Semiring.laws x) a.first.now a.wanted.now v walkable c.valid.ensures.tables.walk.distinct a.item a.source a.t stands c.hold.new.self c.skip_item.new.tables
    (c.in_ok-hold.ensures.ok stands.0 stands.1) c.in_ok-skip_item.ensures c.open_calls.new.tables c.in_ok-open_calls.ensures
