pub mod Fields
pub mod Steps
pub mod Verdict
pub mod Standing
pub mod Laws
pub mod Found
pub mod Last
