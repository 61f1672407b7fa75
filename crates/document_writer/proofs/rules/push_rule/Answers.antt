use Rattle.std.proofs.Common.{arith}
use Rattle.std.proofs.lemmas.Grind.{common_steps}
use Rattle.document_writer.proofs.DocumentLemmas.{rule_written}
use Rattle.document_writer.proofs.rules.push_rule.Goals as goal

pub returns : goal.returns
returns c = grind (arith, common_steps, rule_written c.args.document.now c.args.rule.now)
