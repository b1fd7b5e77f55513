pub mod Conjuncts
pub mod Wiring
pub mod Beginnings
pub mod Nothing
