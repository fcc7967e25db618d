pub mod New
pub mod Make
pub mod Progress
