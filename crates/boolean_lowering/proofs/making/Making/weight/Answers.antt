use Rattle.std.proofs.Common.{◌≡◌, sym, subst}
use Rattle.lowering_laws.specs.Lowering.{variables, slot_of}
use Rattle.boolean_lowering.specs.private.Effects.{HasEffect}
use Rattle.boolean_lowering.specs.private.Sources.{effect_by, IsWeightOf}
use Rattle.boolean_lowering.specs.private.Made.{program_in}
use Rattle.boolean_lowering.proofs.MakingLemmas.{if_ok_both}
use Rattle.boolean_lowering.proofs.SourceLemmas.{weight_in, weight_of}
use Rattle.boolean_lowering.proofs.making.Making.weight.Goals as goal

pub returns-in-Some : goal.returns-in-Some
returns-in-Some c =
    let p = program_in c.args.self.now in
    let source = c.args.source in
    let kept = c.in-Some.kept.now in
    let has = weight_of p c.args.self.now.layout c.requires.making.layout source kept c.in-Some.ensures in
    if_ok_both c.copy.result (λ w. w ≡ kept) (λ w. w ≡ kept) (λ w. HasEffect (variables p) w (effect_by (slot_of p) source))
    (λ w e _. subst (λ v. HasEffect (variables p) v (effect_by (slot_of p) source)) (sym e) has)
    c.copy.ensures c.copy.ensures

pub keep-requires : goal.keep-requires
keep-requires c =
    let l = c.args.self.now.layout in
    let source = c.args.source in
    let has = weight_in (program_in c.args.self.now) l c.requires.making.layout source c.in_ok-weight.weight c.in_ok-weight.ensures in
    subst (IsWeightOf l source) (sym c.in_ok-copy.ensures) has
