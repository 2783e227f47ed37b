pub mod Blank
pub mod Filing
pub mod Lengths
pub mod Sheets
