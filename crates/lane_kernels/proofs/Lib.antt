pub mod LaneLemmas
pub mod TruthLemmas
pub mod SumLemmas
pub mod TotalLemmas
pub mod WordLemmas
pub mod CountLemmas
pub mod SignLemmas
pub mod ConditionLemmas
