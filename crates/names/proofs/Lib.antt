pub mod Lists
pub mod Founds
pub mod Columns
pub mod Verdicts
pub mod Tables
pub mod Accepted
pub mod Bearing
