-- What crates above may cite.
pub use Rattle.saturation_core.proofs.ChangeLemmas.{changed_fits, found_within, kept_lowered}
pub use Rattle.saturation_core.proofs.ChangeLemmas.{kept_more, kept_weight, present_at}
pub use Rattle.saturation_core.proofs.StartLemmas.{drop_at}
pub use Rattle.saturation_core.proofs.TellLemmas.{hand_for, hand_taken, took}
