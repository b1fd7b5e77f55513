pub mod Columns
pub mod Keys
pub mod Marks
pub mod Needed
pub mod Queries
