-- What the laws of masks ask. No public clause cites it.
pub mod MaskLaws
pub mod WordLaws
