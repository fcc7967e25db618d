pub mod PassLemmas
pub mod TurnLemmas
pub mod NapLemmas
pub mod ItemLemmas
pub mod ListLemmas
pub mod FitLemmas
pub mod RunningLemmas
