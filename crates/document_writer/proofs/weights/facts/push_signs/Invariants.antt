use Rattle.std.proofs.Common.{◌≡◌, ◌++◌, map, take}
use Rattle.document_forms.specs.Writing.{sign_text}
use Rattle.document_writer.specs.private.Rows.{behind_blanks}
use Rattle.document_writer.proofs.weights.facts.push_signs.Given as goal

abbrev pub invariant-loop-sign : goal.invariant-loop-sign
invariant-loop-sign l = l.out.items ≡ l.initial.out.items ++ behind_blanks (map (sign_text l.names) (take l.sign-index l.signs))
