mod RowLemmas
mod ChainLemmas
mod MemberLemmas
mod RowNumbers
mod CellLemmas
mod NumberLemmas
mod WordLemmas
