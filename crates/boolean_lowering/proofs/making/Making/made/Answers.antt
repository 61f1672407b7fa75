use Rattle.std.proofs.Common.{◌≡◌, map, replicate, sym, ap, ap₂, subst, ◌∙◌}
use Rattle.std.specs.Prelude.{IfOk}
use Rattle.boolean_programs.specs.declared.statement.Choice.TheVariants.{Star}
use Rattle.boolean_programs.specs.Structure.{IsValueOver}
use Rattle.lowering_laws.specs.Lowering.{variables, slot_of, renamed_choice, Assigns}
use Rattle.lowering_laws.specs.Plans.{IsEffectOver}
use Rattle.lowering_laws.specs.Weights.{targets_of, values_of}
use Rattle.boolean_lowering.specs.declared.source.Source.TheVariants.{Assignment, Filling}
use Rattle.boolean_lowering.specs.private.Layouts.{variables_in, slot_in}
use Rattle.boolean_lowering.specs.private.Effects.{HasEffect}
use Rattle.boolean_lowering.specs.private.Sources.{effect_by}
use Rattle.boolean_lowering.specs.private.Made.{program_in}
use Rattle.boolean_lowering.proofs.SourceLemmas.{each_front, over_at, effect_at}
use Rattle.boolean_lowering.proofs.making.Making.made.Goals as goal

pub assigned-requires-clause-targets : goal.assigned-requires-clause-targets
assigned-requires-clause-targets c =
    let named = Assignment c.in-Assignment.targets c.in-Assignment.values in
    (over_at (program_in c.args.self.now) c.args.self.now.layout c.requires.making.layout c.args.source named c.in-Assignment.is c.requires.over).1

pub assigned-requires-clause-values : goal.assigned-requires-clause-values
assigned-requires-clause-values c =
    let named = Assignment c.in-Assignment.targets c.in-Assignment.values in
    (over_at (program_in c.args.self.now) c.args.self.now.layout c.requires.making.layout c.args.source named c.in-Assignment.is c.requires.over).2

pub assign-requires-clause-over : goal.assign-requires-clause-over
assign-requires-clause-over c =
    let p = program_in c.args.self.now in
    let named = Assignment c.in-Assignment.targets c.in-Assignment.values in
    let pairs = c.deref.result.now in
    let same : Assigns (targets_of pairs) (values_of pairs) ≡ effect_by (slot_of p) c.args.source =
    effect_at p c.args.self.now.layout c.requires.making.layout c.args.source named (Assigns (targets_of pairs) (values_of pairs)) c.in-Assignment.is
    (ap₂ Assigns (ap targets_of c.deref.ensures.value ∙ c.in_ok-pairs-in-Assignment.ensures.targets) (ap values_of c.deref.ensures.value ∙ c.in_ok-pairs-in-Assignment.ensures.values)) in
    subst (IsEffectOver (variables p)) (sym same) c.requires.over

pub filled-requires-clause-values : goal.filled-requires-clause-values
filled-requires-clause-values c =
    let l = c.args.self.now.layout in
    let named = Filling c.in-Filling.first c.in-Filling.values c.in-Filling.free in
    each_front (IsValueOver (variables_in l)) (map (renamed_choice (slot_in l)) c.in-Filling.values.now) (replicate c.in-Filling.free Star)
    (over_at (program_in c.args.self.now) l c.requires.making.layout c.args.source named c.in-Filling.is c.requires.over).2

pub assign-requires-in-Filling-clause-over : goal.assign-requires-in-Filling-clause-over
assign-requires-in-Filling-clause-over c =
    let p = program_in c.args.self.now in
    let named = Filling c.in-Filling.first c.in-Filling.values c.in-Filling.free in
    let pairs = c.deref-in-Filling.result.now in
    let same : Assigns (targets_of pairs) (values_of pairs) ≡ effect_by (slot_of p) c.args.source =
    effect_at p c.args.self.now.layout c.requires.making.layout c.args.source named (Assigns (targets_of pairs) (values_of pairs)) c.in-Filling.is
    (ap₂ Assigns (ap targets_of c.deref-in-Filling.ensures.value ∙ c.in_ok-pairs-in-Filling.ensures.targets) (ap values_of c.deref-in-Filling.ensures.value ∙ c.in_ok-pairs-in-Filling.ensures.values)) in
    subst (IsEffectOver (variables p)) (sym same) c.requires.over

pub returns-in_ok-pairs-in-Assignment : goal.returns-in_ok-pairs-in-Assignment
returns-in_ok-pairs-in-Assignment c =
    let p = program_in c.args.self.now in
    let named = Assignment c.in-Assignment.targets c.in-Assignment.values in
    let pairs = c.deref.result.now in
    let same : Assigns (targets_of pairs) (values_of pairs) ≡ effect_by (slot_of p) c.args.source =
    effect_at p c.args.self.now.layout c.requires.making.layout c.args.source named (Assigns (targets_of pairs) (values_of pairs)) c.in-Assignment.is
    (ap₂ Assigns (ap targets_of c.deref.ensures.value ∙ c.in_ok-pairs-in-Assignment.ensures.targets) (ap values_of c.deref.ensures.value ∙ c.in_ok-pairs-in-Assignment.ensures.values)) in
    subst (λ e. IfOk c.assign.result (λ w. HasEffect (variables p) w e)) same c.assign.ensures

pub returns-in_ok-pairs-in-Filling : goal.returns-in_ok-pairs-in-Filling
returns-in_ok-pairs-in-Filling c =
    let p = program_in c.args.self.now in
    let named = Filling c.in-Filling.first c.in-Filling.values c.in-Filling.free in
    let pairs = c.deref-in-Filling.result.now in
    let same : Assigns (targets_of pairs) (values_of pairs) ≡ effect_by (slot_of p) c.args.source =
    effect_at p c.args.self.now.layout c.requires.making.layout c.args.source named (Assigns (targets_of pairs) (values_of pairs)) c.in-Filling.is
    (ap₂ Assigns (ap targets_of c.deref-in-Filling.ensures.value ∙ c.in_ok-pairs-in-Filling.ensures.targets) (ap values_of c.deref-in-Filling.ensures.value ∙ c.in_ok-pairs-in-Filling.ensures.values)) in
    subst (λ e. IfOk c.assign-in-Filling.result (λ w. HasEffect (variables p) w e)) same c.assign-in-Filling.ensures
