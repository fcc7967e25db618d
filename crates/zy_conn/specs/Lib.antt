pub mod Ring
pub mod Work
pub mod Kept
pub mod Hold
pub mod Block
pub mod Step
pub mod Direct
