pub mod Look
pub mod Order
pub mod Steal
pub mod Range
