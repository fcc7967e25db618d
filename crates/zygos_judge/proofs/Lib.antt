pub mod EndLemmas
pub mod CallLemmas
pub mod TextLemmas
