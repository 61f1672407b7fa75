use Rattle.std.proofs.Common.{sym}
use Rattle.document_writer.proofs.BitLemmas.{none_past}
use Rattle.document_writer.proofs.weights.forms.has_variable.Goals as goal

pub returns-then-variable-ge64 : goal.returns-then-variable-ge64
returns-then-variable-ge64 c = sym (none_past 64 c.args.from c.args.variable c.ranges.from.fits c.if-variable-ge64.true)
