-- Amounts; a plane worked on row by row; the sweep's way; levels through their lattices; the rounds; the budget.
pub mod Amounts
pub mod Partly
pub mod Sweeps
pub mod Chains
pub mod Rounds
pub mod Exact
