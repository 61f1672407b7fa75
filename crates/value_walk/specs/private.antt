-- What private functions promise.
pub mod Walking
