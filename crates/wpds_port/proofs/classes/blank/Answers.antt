use Rattle.std.proofs.Common.{refl, arith}
use Rattle.wpds_port.specs.declared.classes.TheConstants.{CLASSES}
use Rattle.wpds_port.specs.Tokens.{is_blank}
use Rattle.wpds_port.proofs.ClassLemmas.{agree_below, from_table}
use Rattle.wpds_port.proofs.classes.blank.Goals as goal

pub returns : goal.returns
unfolding agree_below
returns c = from_table CLASSES 8 is_blank c.args.b (omega arith) refl
