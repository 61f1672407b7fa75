use Rattle.std.proofs.Common.{[], refl}
use Rattle.wpds_port.proofs.SpanLemmas.{stand_in, in_order}
use Rattle.wpds_port.proofs.laws.tokens_stand_in_order.Goals as goal

pub returns : goal.returns
returns c = record { stand = λ line ts h. stand_in ts [] line line 0 refl refl h; order = λ line ts h. in_order ts 0 line h }
