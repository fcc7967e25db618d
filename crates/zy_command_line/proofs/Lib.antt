mod Ascii
mod Rows
mod Words
mod Taken
mod Turns
mod Spelling
pub mod Split
pub mod Ranges
