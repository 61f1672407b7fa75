use Rattle.std.proofs.Common.{refl, arith}
use Rattle.wpds_port.specs.declared.classes.TheConstants.{CLASSES}
use Rattle.wpds_port.specs.Tokens.{begins_name}
use Rattle.wpds_port.proofs.ClassLemmas.{agree_below, from_table}
use Rattle.wpds_port.proofs.classes.name_begins.Goals as goal

pub returns : goal.returns
unfolding agree_below
returns c = from_table CLASSES 1 begins_name c.args.b (omega arith) refl
