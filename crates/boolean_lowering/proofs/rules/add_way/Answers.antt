use Rattle.lowering_laws.specs.Lowering.{Assumes, symbol, slot_of}
use Rattle.truth_tables.specs.Formulas.{renamed}
use Rattle.boolean_lowering.specs.private.Ways.{condition_of}
use Rattle.boolean_lowering.specs.private.Made.{program_in}
use Rattle.boolean_lowering.proofs.AddedLemmas.{step_accepted}
use Rattle.boolean_lowering.proofs.rules.add_way.Goals as goal

pub add-requires-clause-accepted : goal.add-requires-clause-accepted
add-requires-clause-accepted c =
    let p = program_in c.args.making.now in
    step_accepted p c.args.system.now c.requires.system c.args.head c.symbol-to.result (symbol p c.args.way.to) c.symbol-to.ensures
    (Assumes (renamed (slot_of p) (condition_of c.args.way.condition))) c.requires.within c.requires.room
