use Rattle.saturation_core.proofs.TellLemmas.{out_event, out_later, out_taken}
use Rattle.saturation_core.proofs.laws.hands_stay_out.Goals as goal

pub returns-clause-taken : goal.returns-clause-taken
returns-clause-taken g c = out_taken g.S.Semiring.operations g.D.Direction.way

pub returns-clause-event : goal.returns-clause-event
returns-clause-event g c = out_event g.S.Semiring.operations g.D.Direction.way

pub returns-clause-events : goal.returns-clause-events
returns-clause-events g c = out_later g.S.Semiring.operations g.D.Direction.way
