pub mod GroupLemmas
pub mod RestLemmas
