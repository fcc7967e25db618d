pub mod LookLemmas
pub mod OrderLemmas
pub mod SeatLemmas
pub mod RangeLemmas
pub mod TurnLemmas
pub mod IdleLemmas
