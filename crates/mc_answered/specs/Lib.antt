pub mod Reading
pub mod Halved
pub mod Replies
pub mod With
pub mod Marked
pub mod Size
