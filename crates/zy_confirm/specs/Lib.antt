pub mod Choosing
pub mod Store
pub mod NextText
pub mod Gathering
