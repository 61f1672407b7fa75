mod AgreementLemmas
mod QueryLemmas
mod ReachabilityLemmas
mod ReportingLemmas
mod TellingLemmas
mod WeightsLemmas
