pub mod Mistakes
pub mod Names
pub mod Arguments
pub mod Readings
