pub mod Forms
pub mod Values
pub mod CopyConst
pub mod CopyLaws
pub mod private
