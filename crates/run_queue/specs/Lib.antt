pub mod Slots
pub mod Changes
pub mod Places
pub mod Examples
