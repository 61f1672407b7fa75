use Rattle.std.proofs.Common.{◌≡◌, sym, ap, ◌∙◌, subst, arith}
use Rattle.std.proofs.lemmas.Result.{on_ok_weaker}
use Rattle.boolean_programs.specs.Programs.{procedure_of}
use Rattle.boolean_programs.specs.Lines.{first_line}
use Rattle.boolean_machine.specs.Machine.{at_line}
use Rattle.lowering_laws.specs.Lowering.{variables, symbol}
use Rattle.lowering_laws.specs.Plans.{IsEffectOver, IsSlotOver}
use Rattle.boolean_lowering.specs.private.Spots.{instruction_of}
use Rattle.boolean_lowering.specs.private.Effects.{HasEffect}
use Rattle.boolean_lowering.specs.private.Made.{program_in}
use Rattle.boolean_lowering.proofs.ListLemmas.{drop_zero}
use Rattle.boolean_lowering.proofs.RuleLemmas.{call_small, call_same}
use Rattle.boolean_lowering.proofs.MakingLemmas.{map_over}
use Rattle.boolean_lowering.proofs.AddedLemmas.{map_fits, call_accepted, call_added}
use Rattle.boolean_lowering.proofs.rules.add_call.Goals as goal

pub overflow_cast-free : goal.overflow_cast-free
overflow_cast-free c =
    let p = program_in c.args.making.now in
    let small = call_small p c.args.making.now.layout c.requires.making.layout (procedure_of c.args.callee.now) c.args.arguments.now c.requires.within.effect in
    omega arith

pub weight-requires-clause-over : goal.weight-requires-clause-over
weight-requires-clause-over c =
    let p = program_in c.args.making.now in
    let q = procedure_of c.args.callee.now in
    let same = call_same p c.args.making.now.layout c.requires.making.layout q c.args.arguments.now c.requires.within.effect c.first_local-first.result c.len-free.result c.first_local-first.ensures c.len-free.ensures in
    subst (IsEffectOver (variables p)) (sym same) c.requires.within.effect

pub weight-requires-clause-short : goal.weight-requires-clause-short
weight-requires-clause-short c =
    let p = program_in c.args.making.now in
    let small = call_small p c.args.making.now.layout c.requires.making.layout (procedure_of c.args.callee.now) c.args.arguments.now c.requires.within.effect in
    let at = c.first_local-first.ensures in
    let free = c.len-free.ensures in
    omega arith

pub add-requires-clause-map : goal.add-requires-clause-map
add-requires-clause-map c =
    let p = program_in c.args.making.now in
    let slots = c.requires.within.slots in
    map_fits p c.args.system.now c.requires.system c.map-map.result
    (map_over (variables p) c.map-map.result (λ v below. subst (IsSlotOver (variables p)) (sym (c.map-map.ensures v below)) (slots v below)))

pub add-requires-clause-accepted : goal.add-requires-clause-accepted
add-requires-clause-accepted c =
    let p = program_in c.args.making.now in
    let at : c.symbol-to.result ≡ symbol p (at_line (first_line c.args.callee.now.body)) =
    c.symbol-to.ensures ∙ ap (symbol p) (c.at_line.ensures ∙ ap at_line (c.line_at.ensures ∙ ap first_line (drop_zero c.as_slice.result.now ∙ c.as_slice.ensures))) in
    let at_back : c.symbol-back.result ≡ symbol p (at_line c.args.spot.now.next) = c.symbol-back.ensures ∙ ap (symbol p) c.at_line-2.ensures in
    call_accepted p c.args.system.now c.requires.system c.args.head c.symbol-to.result c.symbol-back.result (instruction_of c.args.spot.now) c.args.targets.now (procedure_of c.args.callee.now) c.args.arguments.now at at_back
    c.requires.within c.requires.room

pub returns : goal.returns
returns c =
    let p = program_in c.args.making.now in
    let q = procedure_of c.args.callee.now in
    let vs = c.args.arguments.now in
    let same = call_same p c.args.making.now.layout c.requires.making.layout q vs c.requires.within.effect c.first_local-first.result c.len-free.result c.first_local-first.ensures c.len-free.ensures in
    let has = subst (HasEffect (variables p) c.in_ok-weight.weight) same c.in_ok-weight.ensures in
    let at : c.symbol-to.result ≡ symbol p (at_line (first_line c.args.callee.now.body)) =
    c.symbol-to.ensures ∙ ap (symbol p) (c.at_line.ensures ∙ ap at_line (c.line_at.ensures ∙ ap first_line (drop_zero c.as_slice.result.now ∙ c.as_slice.ensures))) in
    let at_back : c.symbol-back.result ≡ symbol p (at_line c.args.spot.now.next) = c.symbol-back.ensures ∙ ap (symbol p) c.at_line-2.ensures in
    on_ok_weaker c.add.result
    (call_added p c.args.system.now c.requires.system c.args.head c.symbol-to.result c.symbol-back.result (instruction_of c.args.spot.now) c.args.targets.now q vs at at_back
    c.in_ok-weight.weight c.map-map.result c.add.new.system has c.map-map.ensures)
    c.add.ensures
