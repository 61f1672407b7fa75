use Rattle.std.proofs.Common.{◌≡◌, ◌++◌, map, take}
use Rattle.document_forms.specs.Writing.{pair_text}
use Rattle.document_writer.specs.private.Rows.{behind_blanks}
use Rattle.document_writer.proofs.weights.forms.push_pairs.Given as goal

abbrev pub invariant-loop-pair : goal.invariant-loop-pair
invariant-loop-pair l = l.out.items ≡ l.initial.out.items ++ behind_blanks (map (pair_text l.names) (take l.pair-index l.pairs))
