pub mod CommandLine
pub mod Numbers
pub mod Faults
pub mod Refusals
pub mod Examples
