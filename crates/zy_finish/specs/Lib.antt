pub mod Over
pub mod Finish
pub mod Received
pub mod Shown
pub mod Part
pub mod Left
pub mod Served
pub mod Rest
