pub mod Walking
pub mod private
