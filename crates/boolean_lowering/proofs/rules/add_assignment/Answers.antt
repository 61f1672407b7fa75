use Rattle.std.proofs.Common.{◌≡◌, map, ap, ◌∙◌}
use Rattle.std.proofs.lemmas.Result.{on_ok_weaker}
use Rattle.boolean_machine.specs.Machine.{at_line}
use Rattle.lowering_laws.specs.Lowering.{Assigns, symbol, slot_of, in_slots}
use Rattle.boolean_lowering.specs.private.Made.{program_in}
use Rattle.boolean_lowering.proofs.AddedLemmas.{step_accepted, step_added}
use Rattle.boolean_lowering.proofs.rules.add_assignment.Goals as goal

pub weight-requires-clause-over : goal.weight-requires-clause-over
weight-requires-clause-over c = c.requires.within.effect

pub add-requires-clause-accepted : goal.add-requires-clause-accepted
add-requires-clause-accepted c =
    let p = program_in c.args.making.now in
    let at : c.symbol-to.result ≡ symbol p (at_line c.args.next) = c.symbol-to.ensures ∙ ap (symbol p) c.at_line.ensures in
    step_accepted p c.args.system.now c.requires.system c.args.head c.symbol-to.result (symbol p (at_line c.args.next)) at
    (Assigns (map (slot_of p) c.args.targets.now) (in_slots p c.args.values.now)) c.requires.within c.requires.room

pub returns : goal.returns
returns c =
    let p = program_in c.args.making.now in
    let at : c.symbol-to.result ≡ symbol p (at_line c.args.next) = c.symbol-to.ensures ∙ ap (symbol p) c.at_line.ensures in
    on_ok_weaker c.add.result
    (step_added p c.args.system.now c.requires.system c.args.head c.symbol-to.result (symbol p (at_line c.args.next)) at
    (Assigns (map (slot_of p) c.args.targets.now) (in_slots p c.args.values.now)) c.in_ok-weight.weight c.add.new.system c.in_ok-weight.ensures)
    c.add.ensures
