-- What a reader must believe, in reading order: the transform, counts, the cone, the standard's form of 5/3,
-- the theorems and the worked cases.
pub mod Lifting
pub mod Counts
pub mod Cone
pub mod Extension
pub mod Theorems
pub mod Cases
