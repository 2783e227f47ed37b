-- What a reader must believe besides the rule of the cone: rectangles as spans, the spans of the levels, and which cells a cone has.
pub mod Rectangles
pub mod Spans
pub mod Cones
