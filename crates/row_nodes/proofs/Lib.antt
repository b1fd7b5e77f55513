pub mod StepLemmas
pub mod SelectLemmas
pub mod RowLemmas
pub mod PushLemmas
pub mod FrontLemmas
