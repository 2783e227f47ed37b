pub mod Endings
pub mod Buffers
pub mod Performances
pub mod Files
