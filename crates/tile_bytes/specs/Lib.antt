pub mod Bytes
pub mod Bits
pub mod Layout
pub mod Slots
