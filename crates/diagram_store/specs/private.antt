-- What the test of a list of nodes asks. No public clause cites it.
pub mod Fitting
pub mod Turns
pub mod TripleChains
