use Rattle.saturation_core.proofs.TellLemmas.{out_settles, out_tells}
use Rattle.saturation_core.proofs.laws.hands_out_tell.Goals as goal

pub returns-clause-tells : goal.returns-clause-tells
returns-clause-tells g c = λ b seat jobs goals book out. out_tells g.S.Semiring.operations g.D.Direction.way b book.replays seat jobs goals out

pub returns-clause-settles : goal.returns-clause-settles
returns-clause-settles g c = λ b done book out. out_settles g.S.Semiring.operations g.D.Direction.way b done book.replays out
