pub mod Layers
pub mod Through
