pub mod CoreLemmas
pub mod TurnLemmas
pub mod AloneLemmas
pub mod OrderLemmas
