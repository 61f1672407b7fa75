pub mod Nodes
pub mod Meaning
pub mod Canonical
pub mod Diagrams
pub mod TripleTables
pub mod private
