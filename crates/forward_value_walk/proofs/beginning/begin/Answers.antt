use Rattle.std.proofs.Common.{ℕ, false, ap, ◌∙◌, subst}
use Rattle.config_patterns.specs.Edges.{edges_of}
use Rattle.weight_tables.specs.Tables.{TablesValue, with_hand}
use Rattle.weight_tables.specs.declared.layer.Layer.TheVariants.{Base}
use Rattle.walk_pairs.specs.declared.pairs.Order.TheVariants.{Then}
use Rattle.walk_pairs.specs.declared.pairs.Stage.TheVariants.{Down}
use Rattle.walk_pairs.specs.Giving.{AreFallsGiven}
use Rattle.forward_value_walk.proofs.GoingLemmas.{gone_walkable}
use Rattle.forward_value_walk.proofs.BeginLemmas.{empty, empty_walkable, tops_gone, begun_over, begun_walking}
use Rattle.forward_value_walk.proofs.beginning.begin.Goals as goal

pub uncover_all-requires : goal.uncover_all-requires
uncover_all-requires g c =
    let a = c.args in
    let v = a.tables.now in
    let G = λ (u : TablesValue g.row.S.Denot g.row.S-W.Denot g.row.S-Ret.Denot). with_hand (g.S.Semiring.operations u.system.semiring).one u in
    let is = c.in_ok-hold_one.ensures.ok ∙ ap G c.renew.ensures in
    let v1 = c.hold_one.new.self in
    let v2 = c.fall_ways.new.tables in
    let P : ℕ → Type 0 = λ n. AreFallsGiven (g.S.Semiring.operations v1.system.semiring) v1 Then Base Down n (edges_of a.wanted.now.items) 0 v2 in
    let tops = subst P c.control.ensures.value c.in_ok-fall_ways.ensures in
    let gone = tops_gone g.S.Semiring.operations (λ x. g.S.Semiring.laws x) a.first.now a.wanted.now v c.valid.ensures.system c.valid.ensures.tables c.requires v1 v2 v2 is tops in
    let e = empty g.S.Semiring.operations (λ x. g.S.Semiring.laws x) a.first.now a.wanted.now v c.valid.ensures.system c.valid.ensures.tables c.requires in
    let now = gone_walkable g.S.Semiring.operations (λ x. g.S.Semiring.laws x) a.first.now a.wanted.now e v2
    (empty_walkable g.S.Semiring.operations (λ x. g.S.Semiring.laws x) a.first.now a.wanted.now v c.valid.ensures.system c.valid.ensures.tables c.requires) gone in
    record { finished = now.finished; made = now.made }

pub returns : goal.returns
returns g c =
    let a = c.args in
    let v = a.tables.now in
    let G = λ (u : TablesValue g.row.S.Denot g.row.S-W.Denot g.row.S-Ret.Denot). with_hand (g.S.Semiring.operations u.system.semiring).one u in
    let is = c.in_ok-hold_one.ensures.ok ∙ ap G c.renew.ensures in
    let v1 = c.hold_one.new.self in
    let v2 = c.fall_ways.new.tables in
    let v3 = c.uncover_all.new.tables in
    let P : ℕ → Type 0 = λ n. AreFallsGiven (g.S.Semiring.operations v1.system.semiring) v1 Then Base Down n (edges_of a.wanted.now.items) 0 v2 in
    let tops = subst P c.control.ensures.value c.in_ok-fall_ways.ensures in
    record {
      walking = λ stops. begun_walking g.S.Semiring.operations (λ x. g.S.Semiring.laws x) a.first.now a.wanted.now v c.valid.ensures.system c.valid.ensures.tables c.requires v1 v2 v3 is tops stops c.in_ok-uncover_all.ensures.gone c.in_ok-uncover_all.ensures.met;
      others = begun_over g.S.Semiring.operations (λ x. g.S.Semiring.laws x) a.first.now a.wanted.now v c.valid.ensures.system c.valid.ensures.tables c.requires v1 v2 v3 is tops (λ _. false) c.in_ok-uncover_all.ensures.gone c.in_ok-uncover_all.ensures.met;
    }
