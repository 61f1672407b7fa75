use Rattle.std.proofs.Common.{◌≡◌, ◌++◌, map, take}
use Rattle.document_forms.specs.Writing.{rule_text}
use Rattle.document_writer.specs.private.Rows.{lines}
use Rattle.document_writer.proofs.rules.push_rules.Given as goal

abbrev pub invariant-loop-rule : goal.invariant-loop-rule
invariant-loop-rule l = l.out.items ≡ l.initial.out.items ++ lines (map (rule_text l.document) (take l.rule-index l.document.rules))
