pub mod Feed
pub mod Flow
pub mod Ring
pub mod Session
