pub mod CountLemmas
pub mod RestLemmas
pub mod MoveLemmas
pub mod SleepLemmas
pub mod SeatLemmas
