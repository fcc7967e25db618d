pub mod SeriesLemmas
pub mod ListingLemmas
pub mod LineLemmas
pub mod MarkedLemmas
pub mod ShownLemmas
pub mod CutLemmas
pub mod CountLemmas
