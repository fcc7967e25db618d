pub mod Cut
pub mod Kinds
pub mod Said
pub mod Answer
pub mod Shape
pub mod Output
