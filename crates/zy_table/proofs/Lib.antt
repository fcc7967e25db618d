pub mod PutLemmas
pub mod SumLemmas
pub mod MemberLemmas
pub mod SlotLemmas
pub mod SliceLemmas
