use Rattle.std.proofs.Common.{◌≡◌, ◌+◌, ◌<◌, ◌≤◌, sym, subst, arith}
use Rattle.relation_weights.specs.declared.rel_map.Slot.TheVariants.{Callee}
use Rattle.lowering_laws.specs.Lowering.{map_slot, variables}
use Rattle.lowering_laws.specs.Plans.{IsSlotOver}
use Rattle.boolean_lowering.specs.private.Layouts.{variables_in}
use Rattle.boolean_lowering.specs.private.Made.{program_in}
use Rattle.boolean_lowering.proofs.LayoutLemmas.{variables_same}
use Rattle.boolean_lowering.proofs.MakingLemmas.{slot_found}
use Rattle.boolean_lowering.proofs.making.Making.slot.Goals as goal

pub overflow_add-result : goal.overflow_add-result
overflow_add-result c =
    let p = program_in c.args.self.now in
    let l = c.args.self.now.layout in
    let is = c.requires.making.layout in
    let at : map_slot p c.args.targets.now c.args.variable ≡ Callee (l.globals + c.in-Some.place) = slot_found p l is c.args.targets.now c.args.variable c.in-Some.place (sym c.in-Some.ensures) in
    let small : l.globals + c.in-Some.place < variables p = subst (IsSlotOver (variables p)) at c.requires.over in
    let few : variables_in l ≤ 24 = l.few in
    let same = variables_same p l is in
    omega arith

pub overflow_cast-result-in-Some : goal.overflow_cast-result-in-Some
overflow_cast-result-in-Some c =
    let p = program_in c.args.self.now in
    let l = c.args.self.now.layout in
    let is = c.requires.making.layout in
    let at : map_slot p c.args.targets.now c.args.variable ≡ Callee (l.globals + c.in-Some.place) = slot_found p l is c.args.targets.now c.args.variable c.in-Some.place (sym c.in-Some.ensures) in
    let small : l.globals + c.in-Some.place < variables p = subst (IsSlotOver (variables p)) at c.requires.over in
    let few : variables_in l ≤ 24 = l.few in
    let same = variables_same p l is in
    omega arith
