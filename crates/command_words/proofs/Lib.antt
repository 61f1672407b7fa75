mod OneFault
mod NumberLemmas
mod CommandLemmas
