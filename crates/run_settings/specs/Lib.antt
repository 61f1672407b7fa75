pub mod Settings
pub mod private
