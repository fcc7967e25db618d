pub mod CompactLemmas
pub mod WalkLemmas
