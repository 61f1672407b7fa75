use Rattle.std.proofs.Common.{◌≡◌, ◌++◌, map, take}
use Rattle.document_forms.specs.Writing.{item_text}
use Rattle.document_writer.specs.private.Rows.{behind_blanks}
use Rattle.document_writer.proofs.patterns.push_items.Given as goal

abbrev pub invariant-loop-item : goal.invariant-loop-item
invariant-loop-item l = l.out.items ≡ l.initial.out.items ++ behind_blanks (map (item_text l.symbols) (take l.item-index l.items))
