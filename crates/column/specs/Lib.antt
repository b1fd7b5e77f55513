pub mod Bits
pub mod Columns
pub mod Rows
pub mod Sides
pub mod Examples
