pub mod Listings
pub mod Reports
pub mod Traces
pub mod Expansions
pub mod private
