pub mod private
pub mod Digits
pub mod NameReads
pub mod Names
pub mod Pieces
pub mod RuleReads
pub mod TreeReads
pub mod WeightReads
