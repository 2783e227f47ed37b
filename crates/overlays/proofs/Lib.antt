-- What overlays rest on. Other crates may cite these modules.
pub mod Laying
