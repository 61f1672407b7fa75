use Rattle.std.proofs.Common.{◌≡◌, refl, ap, ◌∙◌, arith}
use Rattle.weighted_automata.specs.declared.place.Place.{Place}
use Rattle.weight_tables.specs.Entries.{lowered_in}
use Rattle.weight_tables.specs.Tables.{with_entries}
use Rattle.weight_tables.specs.declared.layer.Layer.TheVariants.{Walk}
use Rattle.walk_pairs.specs.declared.pairs.Stage.TheVariants.{Across}
use Rattle.walk_pairs.specs.Pairs.{pair_place}
use Rattle.walk_pairs.proofs.CallerLemmas.{one_pair, hand_below}
use Rattle.value_walk.specs.private.Walking.{IsMeeting}
use Rattle.value_walk.proofs.giving.meet.Goals as goal

pub returns-in_ok-lower : goal.returns-in_ok-lower
returns-in_ok-lower g c =
    let a = c.args in
    let v = a.tables.now in
    let s = g.S.Semiring.operations v.system.semiring in
    let x : Place = pair_place Across a.state 0 in
    let same : a.control ≡ a.to.now.control = omega (arith, c.control.ensures.value) in
    let made = c.in_ok-lower.ensures.ok ∙ ap (λ (y : Place). with_entries Walk (lowered_in s y v.hand v.walk) v) c.pair_place.ensures in
    record {
      lowered = one_pair s (IsMeeting s a.to.now v a.state a.control) x v.hand (record { control = same; place = refl; weight = refl }) v c.lower.new.self made;
      met = λ _. hand_below (g.S.Semiring.laws v.system.semiring) v c.lower.new.self c.valid.ensures.tables x made;
    }
