pub mod PlaceLemmas
pub mod RestLemmas
pub mod SharedLemmas
pub mod SharingLemmas
pub mod UnmetLemmas
