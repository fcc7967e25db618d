pub mod Line
pub mod Frame
pub mod Cut
pub mod Progress
pub mod Feed
pub mod Steps
