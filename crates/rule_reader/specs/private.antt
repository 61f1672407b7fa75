pub mod ActionReads
pub mod FactReads
pub mod FormReads
pub mod NameTables
pub mod PairTexts
pub mod Returns
pub mod Rules
