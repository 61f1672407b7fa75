pub mod Quantifying
pub mod Relations
pub mod Renaming
pub mod NodeTables
pub mod private
