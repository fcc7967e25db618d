pub mod ItemLemmas
pub mod ReadLemmas
pub mod GotLemmas
pub mod ToldLemmas
pub mod MarkedLemmas
pub mod ValuedLemmas
