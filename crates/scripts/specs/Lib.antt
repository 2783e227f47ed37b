pub mod Commands
pub mod Scripts
pub mod Pending
pub mod Meanings
pub mod Words
