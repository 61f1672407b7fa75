mod BitLemmas
mod DocumentLemmas
mod FormLemmas
mod RowLemmas
