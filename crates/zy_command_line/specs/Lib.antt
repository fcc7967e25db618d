pub mod Grammar
pub mod Request
pub mod Splitting
pub mod Range
