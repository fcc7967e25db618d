pub mod OrderLemmas
pub mod MergedLemmas
pub mod WalkLemmas
pub mod WriteLemmas
pub mod PieceLemmas
