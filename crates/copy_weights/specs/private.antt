-- What the laws of copy constants stand on.
pub mod SetLaws
pub mod FormLaws
