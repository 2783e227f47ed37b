pub mod Plans
pub mod Shows
pub mod Sheets
pub mod Runs
