pub mod KeyLemmas
pub mod NoteLemmas
pub mod MomentLemmas
pub mod OtherLemmas
