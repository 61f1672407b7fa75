pub mod CallerLemmas
mod BodyLineLemmas
mod EdgeLemmas
mod FirstLinesLemmas
mod ItemsLeftLemmas
mod LineFormLemmas
mod LineLemmas
mod NameLineLemmas
mod PatternLemmas
mod ReadingLemmas
mod SetLemmas
mod SymbolLemmas
mod SystemLemmas
