pub mod WorkedLemmas
pub mod KindLemmas
pub mod KeyLemmas
pub mod AnsweredLemmas
pub mod UniqueLemmas
pub mod MergingLemmas
