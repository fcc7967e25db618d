pub mod HalfLemmas
pub mod MoveLemmas
pub mod TryLemmas
pub mod GiveLemmas
pub mod BeginLemmas
pub mod PassLemmas
pub mod CloseLemmas
pub mod CallLemmas
