pub mod ListLemmas
pub mod StoreLemmas
pub mod ChainLemmas
pub mod ChooseLemmas
pub mod MakeLemmas
pub mod TimingLemmas
pub mod BeginLemmas
pub mod GatherLemmas
