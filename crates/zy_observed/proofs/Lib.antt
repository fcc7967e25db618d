pub mod OrderLemmas
pub mod KeyLemmas
