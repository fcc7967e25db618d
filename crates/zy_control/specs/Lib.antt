pub mod View
pub mod ControlRule
pub mod Pass
pub mod Step
pub mod PassSeat
