pub mod InputLemmas
pub mod FailureLemmas
