mod NameLemmas
mod RuleLemmas
mod LengthLemmas
