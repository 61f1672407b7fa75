pub mod PatternOpenings
pub mod JointOpenings
