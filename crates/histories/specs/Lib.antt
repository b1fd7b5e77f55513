pub mod Histories
pub mod Receipts
pub mod Views
