pub mod FoundLemmas
pub mod EndLemmas
