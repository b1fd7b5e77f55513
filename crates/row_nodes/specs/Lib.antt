pub mod Steps
pub mod Select
pub mod Project
pub mod Fronts
pub mod Laws
pub mod Examples
