use Rattle.std.proofs.Common.{◌≡◌, ◌++◌, ◌||◌, map, codes}
use Rattle.document_forms.specs.Names.{name}
use Rattle.document_forms.specs.Writing.{members}
use Rattle.document_writer.specs.private.Forms.{members_from}
use Rattle.document_writer.specs.private.Rows.{marked, has_some}
use Rattle.document_writer.proofs.weights.forms.push_members.Given as goal

abbrev pub invariant-loop-variable : goal.invariant-loop-variable
invariant-loop-variable l = record {
  texts :
      l.out.items ++ marked (codes ", ") l.some (map (name l.names) (members_from l.names l.from l.variable))
      ≡ l.initial.out.items ++ marked (codes ", ") l.behind (map (name l.names) (members l.names l.from));
  some :
      (l.some || has_some (members_from l.names l.from l.variable))
      ≡ (l.behind || has_some (members l.names l.from));
}
