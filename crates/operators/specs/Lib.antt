pub mod States
pub mod Ready
pub mod Inboxes
pub mod Operators
pub mod InPlace
pub mod Fronts
pub mod Runs
pub mod Passing
