pub mod Shown
pub mod AtKey
