-- What private functions promise.
pub mod Opening
pub mod Going
