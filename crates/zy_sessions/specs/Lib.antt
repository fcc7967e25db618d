pub mod Sessions
pub mod Noting
