pub mod Values
pub mod Allows
pub mod Steps
pub mod Facts
pub mod Needs
pub mod Makers
pub mod Turns
