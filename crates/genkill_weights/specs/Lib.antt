pub mod Masks
pub mod GenKill
pub mod GenKillLaws
pub mod FactSets
pub mod Effects
pub mod Making
pub mod Widths
pub mod private
