use Rattle.pushdown_rules.specs.Values.{rules_of}
use Rattle.pushdown_rules.proofs.CallerLemmas.{rules_fit}
use Rattle.setting_runs.proofs.RunLemmas.{value_leads_bare, leads_value_bare, feasible_leads, leads_feasible}
use Rattle.setting_runs.proofs.laws.settings_lead_along_runs.Goals as goal

pub returns : goal.returns
returns g c = record {
  pairs = λ system n relates slots valid means run x y.
      let laws = g.S.Semiring.laws system.semiring in
      let rs = rules_of (g.S.Semiring.operations system.semiring) system run in
      (value_leads_bare laws means rs (rules_fit valid run) x y, λ found. leads_value_bare laws means rs (rules_fit valid run) x found.0 y found.1 found.2 found.3);
  feasible = λ system n relates slots valid means run.
      let laws = g.S.Semiring.laws system.semiring in
      let rs = rules_of (g.S.Semiring.operations system.semiring) system run in (
        λ full. let found = feasible_leads laws means rs (rules_fit valid run) full in (found.0, found.2, found.1, found.3),
        λ found. leads_feasible laws means rs (rules_fit valid run) found.0 found.1 found.2 found.3,
      );
}
