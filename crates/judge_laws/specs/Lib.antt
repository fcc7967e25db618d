pub mod Profile
pub mod Recorded
pub mod Within
