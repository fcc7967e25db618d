pub mod Standing
pub mod Items
pub mod Steps
pub mod Verdict
pub mod Places
pub mod Laws
