pub mod Splits
pub mod Rows
pub mod Texts
