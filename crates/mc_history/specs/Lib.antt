pub mod Recorded
pub mod Compact
pub mod Lent
