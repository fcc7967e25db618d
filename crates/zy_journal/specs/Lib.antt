pub mod Journal
pub mod Kept
pub mod Lists
pub mod Merged
pub mod Pieces
pub mod Walk
