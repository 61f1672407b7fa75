pub mod Relations
pub mod Settings
