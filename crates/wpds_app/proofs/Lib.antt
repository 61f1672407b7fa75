mod GroupLemmas
mod InputLemmas
mod KeptLemmas
mod LadderLemmas
mod ReplyLemmas
mod ReportingLemmas
mod RequestLemmas
