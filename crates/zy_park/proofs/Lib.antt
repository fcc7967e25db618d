pub mod TokenLemmas
pub mod SeatLemmas
