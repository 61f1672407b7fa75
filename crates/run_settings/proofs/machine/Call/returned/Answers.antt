use Rattle.std.proofs.Common.{refl, sym, subst}
use Rattle.semiring_laws.specs.Semiring.{FitsMap}
use Rattle.pushdown_rules.specs.RunValue.{Frame}
use Rattle.relation_laws.specs.Building.{Parts}
use Rattle.relation_weights.specs.declared.rel_map.RelMap.{RelMap}
use Rattle.relation_weights.specs.Relations.{relation_operations}
use Rattle.run_settings.proofs.JoinLemmas.{return_fits}
use Rattle.run_settings.proofs.machine.Call.returned.Goals as goal

pub extend-requires-clause-right : goal.extend-requires-clause-right
extend-requires-clause-right c =
    let m = c.args.relations.now in
    return_fits m m refl c.self.inside.map.now c.args.value.now c.in_ok-returned.returned
    (subst (λ (f : Frame Parts RelMap). FitsMap (relation_operations m) f.map) (sym c.self.view_is) c.requires.call.map)
    c.requires.value c.in_ok-returned.ensures
