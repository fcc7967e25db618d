pub mod Line
pub mod MetaText
pub mod Text
pub mod Answers
pub mod Shape
pub mod Texts
pub mod StatsText
