pub mod Planes
pub mod Lattices
pub mod Places
pub mod Rectangles
pub mod Rowwise
pub mod Flat
pub mod Copies
