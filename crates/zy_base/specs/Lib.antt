pub mod Outside
pub mod Blob
pub mod Memory
pub mod Number
pub mod Limits
pub mod Rest
pub mod Reserved
pub mod Filling
