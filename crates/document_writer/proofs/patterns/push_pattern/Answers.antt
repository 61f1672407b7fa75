use Rattle.std.proofs.Common.{arith}
use Rattle.std.proofs.lemmas.Grind.{common_steps}
use Rattle.document_writer.proofs.DocumentLemmas.{pattern_written}
use Rattle.document_writer.proofs.patterns.push_pattern.Goals as goal

pub returns : goal.returns
returns c = grind (arith, common_steps, pattern_written c.args.document.now c.args.pattern.now)
