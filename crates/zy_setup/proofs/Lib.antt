pub mod ListLemmas
pub mod OwnLemmas
pub mod PassLemmas
pub mod MadeLemmas
pub mod MakeLemmas
pub mod RunLemmas
