pub mod StateLemmas
pub mod KeyLemmas
pub mod WriteLemmas
pub mod StandingLemmas
