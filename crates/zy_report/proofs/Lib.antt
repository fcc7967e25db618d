pub mod TallyLemmas
pub mod AllLemmas
pub mod TableLemmas
