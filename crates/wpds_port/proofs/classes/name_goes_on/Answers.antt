use Rattle.std.proofs.Common.{refl, arith}
use Rattle.wpds_port.specs.declared.classes.TheConstants.{CLASSES}
use Rattle.wpds_port.specs.Tokens.{goes_on_name}
use Rattle.wpds_port.proofs.ClassLemmas.{agree_below, from_table}
use Rattle.wpds_port.proofs.classes.name_goes_on.Goals as goal

pub returns : goal.returns
unfolding agree_below
returns c = from_table CLASSES 2 goes_on_name c.args.b (omega arith) refl
