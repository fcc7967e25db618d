pub mod Judged
pub mod Lasting
pub mod Making
pub mod Over
pub mod Following
pub mod Ending
pub mod Beginning
pub mod Between
