mod WordLemmas
mod LastWordLemmas
mod PlainLineLemmas
mod NoreplyLemmas
mod CheckLemmas
mod CallLemmas
mod KeyLemmas
mod SaidLemmas
mod SameCallLemmas
mod LineWidthLemmas
pub mod WidthLemmas
pub mod SizeLemmas
pub mod SameLemmas
