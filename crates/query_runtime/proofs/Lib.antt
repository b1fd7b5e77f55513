pub mod LeaseLemmas
pub mod RunLemmas
pub mod InPlaceLemmas
pub mod MoveLemmas
pub mod WaitingLemmas
