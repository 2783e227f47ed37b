pub mod Pictures
pub mod Rowwise
pub mod Lattices
pub mod Flats
pub mod Copying
