pub mod Commands
pub mod Generating
pub mod Reports
pub mod Running
pub mod Statuses
pub mod private
