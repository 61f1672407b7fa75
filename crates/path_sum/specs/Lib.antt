pub mod Sums
pub mod Answers
pub mod Saturated
pub mod Pairs
pub mod Results
pub mod Values
pub mod private
