pub mod Texts
pub mod Batch
pub mod Output
