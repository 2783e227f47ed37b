pub mod Lists
pub mod Spelling
