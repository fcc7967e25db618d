pub mod Share
pub mod Core
pub mod Steal
pub mod Turn
pub mod Nap
pub mod Cores
pub mod Running
pub mod Step
