pub mod Nodes
pub mod Turns
pub mod Finished
pub mod Same
