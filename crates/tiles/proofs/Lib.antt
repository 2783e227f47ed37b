pub mod Repeats
pub mod Opened
pub mod SameHead
pub mod Putting
pub mod Stores
pub mod Numbering
pub mod Blank
