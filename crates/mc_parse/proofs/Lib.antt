pub mod WordLemmas
pub mod MetaLemmas
pub mod NumberLemmas
pub mod ArityLemmas
pub mod DeedLemmas
pub mod CallLemmas
pub mod PlainLemmas
pub mod BoundLemmas
pub mod AskLemmas
pub mod NeedLemmas
pub mod GetLemmas
pub mod OneKeyLemmas
pub mod OneSetLemmas
mod StoringLemmas
mod ParsedLemmas
