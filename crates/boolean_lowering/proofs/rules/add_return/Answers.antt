use Rattle.std.proofs.Common.{◌++◌, replicate, sym, subst}
use Rattle.std.proofs.lemmas.Result.{on_ok_weaker}
use Rattle.boolean_programs.specs.declared.statement.Choice.TheVariants.{Star}
use Rattle.lowering_laws.specs.Lowering.{variables}
use Rattle.lowering_laws.specs.Plans.{IsEffectOver}
use Rattle.boolean_lowering.specs.private.Effects.{HasEffect}
use Rattle.boolean_lowering.specs.private.Made.{program_in}
use Rattle.boolean_lowering.proofs.RuleLemmas.{return_small, return_same}
use Rattle.boolean_lowering.proofs.AddedLemmas.{return_added}
use Rattle.boolean_lowering.proofs.rules.add_return.Goals as goal

pub weight-requires-clause-over : goal.weight-requires-clause-over
weight-requires-clause-over c =
    let p = program_in c.args.making.now in
    let same = return_same p c.args.making.now.layout c.requires.making.layout c.args.values.now c.args.free c.requires.within.effect in
    subst (IsEffectOver (variables p)) (sym same) c.requires.within.effect

pub weight-requires-clause-short : goal.weight-requires-clause-short
weight-requires-clause-short c = return_small (program_in c.args.making.now) c.args.making.now.layout c.requires.making.layout c.args.values.now c.args.free c.requires.within.effect

pub returns : goal.returns
returns c =
    let p = program_in c.args.making.now in
    let same = return_same p c.args.making.now.layout c.requires.making.layout c.args.values.now c.args.free c.requires.within.effect in
    let has = subst (HasEffect (variables p) c.in_ok-weight.weight) same c.in_ok-weight.ensures in
    on_ok_weaker c.add.result
    (return_added p c.args.system.now c.requires.system c.args.head (c.args.values.now ++ replicate c.args.free Star) c.in_ok-weight.weight c.add.new.system has)
    c.add.ensures
