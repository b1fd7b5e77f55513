pub mod Lacks
pub mod Full
pub mod Returns
