pub mod Observed
pub mod Courses
pub mod Unmet
pub mod Shared
