-- The proofs, from one step on a line up to the whole transform. Other crates may cite any of these modules.
pub mod Steps
pub mod Planes
pub mod Lattices
pub mod Rounds
pub mod Undoing
pub mod Growth
pub mod Spans
pub mod Locality
pub mod Counts
pub mod Extension
pub mod Cases
