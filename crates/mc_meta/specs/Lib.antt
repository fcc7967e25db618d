pub mod Words
pub mod Number
pub mod Flags
pub mod Meta
pub mod Key
pub mod Room
