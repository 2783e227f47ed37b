-- What a reader must believe: numbers laid over a plane, and the sources that they come from.
pub mod Overlays
pub mod Samples
