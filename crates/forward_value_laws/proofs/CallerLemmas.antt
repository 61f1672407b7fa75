-- What crates above may cite.
pub use Rattle.forward_value_laws.proofs.MeetingLemmas.{zero_or}
pub use Rattle.forward_value_laws.proofs.SettleLemmas.{goal_falls, lowers_settled, lowers_given, lowers_but, lowers_on, calmed_less, taken_settled, calm_closed}
pub use Rattle.forward_value_laws.proofs.SoundLemmas.{starts_sum, uncovered_sum, step_sum, entered_sum, return_sum}
pub use Rattle.forward_value_laws.proofs.WalkLemmas.{tops_sum, uncovered_top_sum, opens_runs, reads_sum, ends_sum, walks_on, walks_lead}
pub use Rattle.forward_value_laws.proofs.StopLemmas.{stopped_answers, walk_answers}
pub use Rattle.forward_value_laws.proofs.TailLemmas.{end_sum, open_sum, tailed_sum}
