pub mod Joined
pub mod View
pub mod Pass
pub mod Root
pub mod Call
pub mod Closing
pub mod StoreRule
pub mod Steps
