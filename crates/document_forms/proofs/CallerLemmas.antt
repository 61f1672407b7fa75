-- What crates above may cite.
pub use Rattle.document_forms.proofs.NameLemmas.{has_known, known_first, known_next, once_alone, once_is_once, once_joined, once_known, twice_is_once}
pub use Rattle.document_forms.proofs.CutLemmas.{equal_only, names_written}
pub use Rattle.document_forms.proofs.FormLemmas.{moves_written, written_moves}
pub use Rattle.document_forms.proofs.RuleLemmas.{IsOwn, weight_own}
pub use Rattle.document_forms.proofs.WrittenWordLemmas.{OneCutting}
pub use Rattle.document_forms.proofs.WrittenLineLemmas.{lawful_is_text}
pub use Rattle.document_forms.proofs.LimitLemmas.{names_few, facts_limit, variables_limit}
pub use Rattle.document_forms.proofs.LowestLemmas.{rises}
pub use Rattle.document_forms.proofs.RefusedLemmas.{first_found}
