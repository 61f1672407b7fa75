pub mod Lists
pub mod Programs
pub mod Lines
pub mod Structure
