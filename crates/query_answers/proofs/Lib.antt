mod AnswerLemmas
mod AnsweredLemmas
pub mod CallerLemmas
mod ClosedLemmas
mod FinishedLemmas
mod JointLemmas
mod ValueLemmas
