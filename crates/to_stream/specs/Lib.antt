pub mod Turns
pub mod Law
pub mod Examples
