use Rattle.std.proofs.Common.{sym, subst}
use Rattle.std.specs.Prelude.{OnOk}
use Rattle.saturation_laws.specs.States.{apply_all}
use Rattle.saturation_laws.specs.Openings.{pops}
use Rattle.saturation_core.specs.private.Steps.{Becomes}
use Rattle.saturation_core.proofs.found.Found.add_pops_of.Goals as goal

pub returns-in-Pre-clause-state : goal.returns-in-Pre-clause-state
returns-in-Pre-clause-state g c =
    subst (λ side. OnOk c.add_pops.result (Becomes c.args.self.now (apply_all (g.S.Semiring.operations c.args.system.now.semiring) (pops side c.args.system.now.rules)) c.add_pops.new.self))
    (sym c.in-Pre.is) c.add_pops.ensures.state
