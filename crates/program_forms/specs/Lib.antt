pub mod Forms
pub mod Places
pub mod Declared
pub mod Above
pub mod Kinds
pub mod FirstRefusal
pub mod Programs
