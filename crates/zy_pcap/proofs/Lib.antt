pub mod ByteLemmas
mod CostLemmas
pub mod CountLemmas
pub mod CoverLemmas
mod DueLemmas
pub mod FileLemmas
mod FitLemmas
mod FlowLemmas
mod FrameLemmas
mod GoodLemmas
mod HeldLemmas
mod InsertLemmas
mod LengthLemmas
mod MeetLemmas
mod PairLemmas
mod PieceLemmas
mod ReadLemmas
mod SessionLemmas
mod SlotLemmas
pub mod StreamLemmas
mod TextLemmas
mod WeaveLemmas
pub mod WholeLemmas
