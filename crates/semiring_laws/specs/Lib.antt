pub mod Semiring
pub mod Lowering
pub mod LoweringLaws
pub mod Reach
pub mod ReachLaws
pub mod Combination
pub mod Chains
