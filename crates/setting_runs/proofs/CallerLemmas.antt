-- What crates above may cite.
pub use Rattle.setting_runs.proofs.RunLemmas.{feasible_leads, leads_feasible, Goes, Lead}
