pub mod Walking
pub mod Naming
pub mod Sizes
pub mod Framing
pub mod Agreeing
pub mod Only
