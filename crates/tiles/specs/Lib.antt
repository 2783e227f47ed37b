pub mod Opening
pub mod Files
pub mod Formatting
