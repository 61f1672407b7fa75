mod GivenLemmas
mod MadeLemmas
mod SettleLemmas
mod TurnLemmas
