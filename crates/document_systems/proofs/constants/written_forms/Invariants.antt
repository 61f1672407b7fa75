use Rattle.std.proofs.Common.{map}
use Rattle.std.specs.List.{range_with_len}
use Rattle.document_systems.specs.CopyWeights.{change_text}
use Rattle.document_systems.specs.private.Rows.{IsRow}
use Rattle.document_systems.proofs.constants.written_forms.Given as goal

abbrev pub invariant-loop-variable : goal.invariant-loop-variable
invariant-loop-variable l = IsRow 32 (map (change_text l.items l.forms) (range_with_len 0 l.variable)) l.row
