use Rattle.boolean_lowering.proofs.PointLemmas.{absent}
use Rattle.boolean_lowering.proofs.points.place_of.Goals as goal

pub returns-in-Err-clause-none : goal.returns-in-Err-clause-none
returns-in-Err-clause-none c = absent c.args.numbers.now c.args.number c.in-Err.field-0 c.requires c.in-Err.ensures.position
