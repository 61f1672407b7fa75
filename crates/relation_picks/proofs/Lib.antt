mod SideLemmas
mod PairLemmas
