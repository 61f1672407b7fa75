use Rattle.std.proofs.Common.{◌≡◌, ◌++◌, take}
use Rattle.document_writer.specs.private.Rows.{behind_blanks}
use Rattle.document_writer.proofs.document.push_texts.Given as goal

abbrev pub invariant-loop-text : goal.invariant-loop-text
invariant-loop-text l = l.out.items ≡ l.initial.out.items ++ behind_blanks (take l.text-index l.texts)
