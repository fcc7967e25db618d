pub mod AddingLemmas
pub mod AllLemmas
pub mod LineLemmas
pub mod SessionLemmas
pub mod ShowingLemmas
pub mod TimeLemmas
