pub mod Answers
pub mod Openings
pub mod Below
pub mod Partly
