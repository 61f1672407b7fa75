-- Which expression is held.
use Rattle.std.specs.Prelude.{ℕ, false, unwrap_or}
use Rattle.truth_tables.specs.Formulas.{Formula, Constant, Variable}
use Rattle.truth_tables.specs.Postfix.{first}
use Rattle.document_forms.specs.declared.expression.Held.{Held}
use Rattle.document_forms.specs.declared.expression.Held.TheVariants.{Const, Var, Parts}

abbrev pub held_formula : Held → Formula ℕ
held_formula (Const b) = Constant b
held_formula (Var k) = Variable k
held_formula (Parts fs) = unwrap_or (first fs) (Constant false)
