pub mod Lowering
pub mod Plans
pub mod Queries
pub mod States
pub mod Weights
pub mod Made
