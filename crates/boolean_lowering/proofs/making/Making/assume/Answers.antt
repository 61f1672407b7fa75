use Rattle.std.proofs.Common.{◌≡◌, sym, ap, subst, ◌∙◌}
use Rattle.std.specs.Prelude.{IfOk}
use Rattle.truth_tables.specs.Formulas.{formula, renamed}
use Rattle.lowering_laws.specs.Lowering.{variables, slot_of, Assumes}
use Rattle.boolean_lowering.specs.private.Layouts.{slot_in}
use Rattle.boolean_lowering.specs.private.Ways.{condition_of}
use Rattle.boolean_lowering.specs.private.Effects.{HasEffect}
use Rattle.boolean_lowering.specs.private.Made.{program_in}
use Rattle.boolean_lowering.proofs.MakingLemmas.{renamed_same}
use Rattle.boolean_lowering.proofs.making.Making.assume.Goals as goal

pub returns-in_ok-tree-in-Holds : goal.returns-in_ok-tree-in-Holds
returns-in_ok-tree-in-Holds c =
    let p = program_in c.args.self.now in
    let l = c.args.self.now.layout in
    let same : formula c.in_ok-tree-in-Holds.tree ≡ renamed (slot_of p) (condition_of c.args.condition) =
    c.in_ok-tree-in-Holds.ensures ∙ ap (renamed (slot_in l)) (c.as_expr.ensures ∙ sym (ap condition_of c.in-Holds.is)) ∙ renamed_same p l (condition_of c.args.condition) c.requires.making.layout in
    subst (λ f. IfOk c.assume_tree.result (λ w. HasEffect (variables p) w (Assumes f))) same c.assume_tree.ensures
