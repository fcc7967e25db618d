pub mod ListLemmas
pub mod NameLemmas
pub mod MomentLemmas
pub mod CourseLemmas
pub mod GivenLemmas
