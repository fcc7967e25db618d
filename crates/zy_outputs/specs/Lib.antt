pub mod Adding
pub mod Observing
pub mod Others
pub mod Sessions
pub mod Showing
pub mod Telling
pub mod Texts
