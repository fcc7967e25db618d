pub mod SetLemmas
pub mod FilterLemmas
pub mod NumberLemmas
pub mod RisingLemmas
pub mod WritingLemmas
pub mod BlobLemmas
pub mod RestLemmas
