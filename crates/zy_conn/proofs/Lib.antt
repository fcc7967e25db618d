pub mod KeptLemmas
pub mod StepLemmas
pub mod HoldLemmas
pub mod LabelLemmas
pub mod DirectLemmas
