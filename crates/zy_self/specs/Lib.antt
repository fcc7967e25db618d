pub mod Numbers
pub mod Tested
