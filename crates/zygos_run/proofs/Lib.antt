pub mod EndLemmas
pub mod LastLemmas
