pub mod Masks
pub mod Zeros
pub mod Writes
pub mod OneCell
pub mod ClearedSlots
