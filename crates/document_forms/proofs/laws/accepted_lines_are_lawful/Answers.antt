use Rattle.document_forms.proofs.PatternLemmas.{query_lawful}
use Rattle.document_forms.proofs.RuleLemmas.{rule_lawful}
use Rattle.document_forms.proofs.laws.accepted_lines_are_lawful.Goals as goal

pub returns : goal.returns
returns c = record { rule = rule_lawful; query = query_lawful }
