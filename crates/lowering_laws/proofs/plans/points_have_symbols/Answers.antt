use Rattle.std.proofs.Common.{[], sym, subst}
use Rattle.std.specs.Prelude.{Option, unwrap_or}
use Rattle.boolean_programs.specs.Programs.{Procedure}
use Rattle.boolean_programs.specs.Lines.{first_line}
use Rattle.boolean_machine.specs.Machine.{at_line}
use Rattle.boolean_machine.specs.Lawful.{IsPointOf}
use Rattle.lowering_laws.proofs.PlanLemmas.{point_symbol}
use Rattle.lowering_laws.proofs.plans.points_have_symbols.Goals as goal

pub returns-clause-symbols : goal.returns-clause-symbols
returns-clause-symbols c = λ p point is. point_symbol p is.0 point is.1

pub returns-clause-entry : goal.returns-clause-entry
returns-clause-entry c = λ p lawful. (
  p.main,
  subst (λ (o : Option Procedure). IsPointOf p p.main (at_line (first_line (unwrap_or {T = Procedure} o (record { params = 0; locals = 0; returns = 0; body = [] })).body)))
      (sym lawful.found) lawful.begins,
)
