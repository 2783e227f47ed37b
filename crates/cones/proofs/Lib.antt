-- What depths, cones and counts in code rest on.
mod Depths
mod Cones
pub mod Counting
