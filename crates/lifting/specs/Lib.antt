-- What a reader must believe stands in Passes; Walks has what the private functions say of the way through a plane.
pub mod Passes
pub mod Walks
