pub mod ReadingLemmas
pub mod HeadingLemmas
pub mod TextLemmas
pub mod ReplyLemmas
pub mod FoundLemmas
pub mod CountLemmas
pub mod MarkedLemmas
pub mod SizeLemmas
