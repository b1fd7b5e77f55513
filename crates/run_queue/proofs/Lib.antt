pub mod SlotLemmas
pub mod FirstLemmas
pub mod StandLemmas
pub mod PlaceLemmas
pub mod OrderLemmas
pub mod TournamentLemmas
pub mod KeptLemmas
