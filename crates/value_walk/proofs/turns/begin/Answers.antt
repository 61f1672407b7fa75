use Rattle.std.proofs.Common.{◌≡◌, ap, ◌∙◌}
use Rattle.weighted_automata.specs.declared.place.Place.{Place}
use Rattle.weight_tables.specs.Entries.{lowered_in}
use Rattle.weight_tables.specs.Tables.{TablesValue, with_entries, with_hand}
use Rattle.weight_tables.specs.declared.layer.Layer.TheVariants.{Walk}
use Rattle.walk_pairs.specs.declared.pairs.Stage.TheVariants.{Down}
use Rattle.walk_pairs.specs.Pairs.{pair_place}
use Rattle.value_walk.proofs.TurnLemmas.{begun_over, begun_walking}
use Rattle.value_walk.proofs.turns.begin.Goals as goal

pub returns : goal.returns
returns g c =
    let a = c.args in
    let v = a.tables.now in
    let law = g.S.Semiring.laws v.system.semiring in
    let x0 : Place = pair_place Down 0 a.from.now.control in
    let here : c.pair_place.result ≡ x0 = c.pair_place.ensures ∙ ap (pair_place Down 0) c.control.ensures.value in
    let F = λ (x : Place) (u : TablesValue g.row.S.Denot g.row.S-W.Denot g.row.S-Ret.Denot). with_entries Walk (lowered_in (g.S.Semiring.operations u.system.semiring) x u.hand u.walk) u in
    let G = λ (u : TablesValue g.row.S.Denot g.row.S-W.Denot g.row.S-Ret.Denot). with_hand (g.S.Semiring.operations u.system.semiring).one u in
    let made = c.in_ok-lower.ensures.ok ∙ ap (λ (x : Place). F x c.hold_one.new.self) here ∙ ap (F x0) (c.in_ok-hold_one.ensures.ok ∙ ap G c.renew.ensures) in
    record {
      walking = begun_walking g.S.Semiring.operations v c.valid.ensures.system law c.valid.ensures.tables a.from.now a.to.now c.lower.new.self made;
      others = begun_over g.S.Semiring.operations v c.valid.ensures.system law c.valid.ensures.tables a.from.now a.to.now c.lower.new.self made;
    }
