pub mod TextLemmas
pub mod ItemLemmas
pub mod ToldLemmas
pub mod SizeLemmas
mod SetLemmas
