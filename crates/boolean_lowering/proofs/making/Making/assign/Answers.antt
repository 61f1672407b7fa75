use Rattle.std.proofs.Common.{◌≡◌, sym, subst}
use Rattle.semiring_laws.specs.Semiring.{Fits}
use Rattle.relation_laws.specs.Relations.{relation_of}
use Rattle.relation_weights.specs.Actions.{assigned, AreTargets}
use Rattle.relation_weights.specs.Relations.{relation_operations}
use Rattle.lowering_laws.specs.Lowering.{variables, Assigns}
use Rattle.lowering_laws.specs.Weights.{targets_of, values_of}
use Rattle.boolean_lowering.specs.private.Effects.{HasEffect}
use Rattle.boolean_lowering.specs.private.Made.{program_in}
use Rattle.boolean_lowering.proofs.TargetLemmas.{targets_are}
use Rattle.boolean_lowering.proofs.MakingLemmas.{if_ok_both, assigned_effect}
use Rattle.boolean_lowering.proofs.making.Making.assign.Goals as goal

pub assign-requires : goal.assign-requires
assign-requires c =
    subst (λ n. AreTargets n c.args.pairs.now) (sym c.requires.making.relations) (targets_are (variables (program_in c.args.self.now)) c.args.pairs.now c.requires.over)

pub returns : goal.returns
returns c =
    let n = variables (program_in c.args.self.now) in
    let m = c.args.self.now.relations in
    let ts = c.args.pairs.now in
    if_ok_both c.assign.result (λ w. w ≡ relation_of m (assigned m ts)) (λ w. Fits (relation_operations m) w) (λ w. HasEffect n w (Assigns (targets_of ts) (values_of ts)))
    (λ w is fits. assigned_effect n m ts w c.actions_mean_effects.ensures.assign c.requires.making.relations (targets_are n ts c.requires.over) is fits)
    c.assign.ensures.pairs c.assign.ensures.fits
