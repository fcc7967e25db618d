pub mod Recorded
pub mod Losses
pub mod Entries
pub mod Explained
pub mod Course
pub mod Numbers
pub mod Between
