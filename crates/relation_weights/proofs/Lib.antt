mod DiagramLemmas
mod FrameLemmas
mod ActionLemmas
mod ReturnLemmas
mod OperationLemmas
mod PairLemmas
mod NodeLemmas
