use Rattle.std.proofs.Common.{◌≡◌, ◌++◌, map, take}
use Rattle.document_forms.specs.Writing.{move_text}
use Rattle.document_writer.specs.private.Rows.{behind_blanks}
use Rattle.document_writer.proofs.weights.maps.push_steps.Given as goal

abbrev pub invariant-loop-step : goal.invariant-loop-step
invariant-loop-step l = l.out.items ≡ l.initial.out.items ++ behind_blanks (map (move_text l.names) (take l.step-index l.moves))
