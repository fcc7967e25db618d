pub mod Finding
pub mod ExitStatus
pub mod Lines
pub mod Ends
pub mod Input
