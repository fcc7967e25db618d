mod NumberLemmas
pub mod WordLemmas
mod RoomLemmas
pub mod PlaceLemmas
pub mod KeyLemmas
pub mod LineLemmas
pub mod SaidLemmas
