pub mod Passing
pub mod Sheeting
pub mod Pictures
pub mod Reporting
