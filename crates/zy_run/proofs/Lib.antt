pub mod StreamLemmas
pub mod OutputLemmas
pub mod AloneLemmas
pub mod SerialLemmas
pub mod CountLemmas
pub mod ApartOutputLemmas
pub mod RunLemmas
pub mod SummaryLemmas
