pub mod TakenLemmas
pub mod StepLemmas
pub mod ReadLemmas
pub mod PieceLemmas
pub mod InletLemmas
pub mod FeedLemmas
pub mod WholeLemmas
