pub mod Words
pub mod Finding
pub mod Calls
pub mod ExitStatus
pub mod Lines
pub mod Ends
pub mod Input
