-- What crates above may cite.
pub use Rattle.value_laws.proofs.PopLemmas.{pop_below}
pub use Rattle.value_laws.proofs.EnterLemmas.{enter_below}
pub use Rattle.value_laws.proofs.SumLemmas.{IsLinear, linear_left, linear_right, linear_after, sums_fit, sums_none, sums_one, sums_combine, sums_map, sums_pairs, sums_within}
pub use Rattle.value_laws.proofs.WorthLemmas.{pop_sums, step_pops, call_pops, step_enters, call_enters, open_enters, opening_sums}
pub use Rattle.value_laws.proofs.WalkLemmas.{begin_sums, fall_runs, enter_runs, fall_sums, enter_sums, read_sums, meet_sums, end_sums, crosses_on, crosses_lead, answer_below, sum_answers}
pub use Rattle.value_laws.proofs.StepLemmas.{one_place, further_then, lowered_fits, lowered_further, lowered_holds}
pub use Rattle.value_laws.proofs.StepLemmas.{pops_kept, pops_met_kept, enters_kept, enters_met_kept, pops_done, enters_done}
pub use Rattle.value_laws.proofs.StepLemmas.{decide, first_kept, returned_kept, nothing_first, nothing_second}
pub use Rattle.value_laws.proofs.RuleLemmas.{begins, Begins, fits_first, fits_inside}
