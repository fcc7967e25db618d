pub mod Parts
pub mod Recording
pub mod Window
pub mod Reading
pub mod Keeping
pub mod Kinds
