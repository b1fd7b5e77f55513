pub mod Lanes
pub mod Truth
pub mod Steps
pub mod Examples
