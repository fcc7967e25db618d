pub mod Commands
pub mod Run
pub mod Output
pub mod Spans
pub mod Apart
pub mod Serial
pub mod Summary
pub mod Keyed
