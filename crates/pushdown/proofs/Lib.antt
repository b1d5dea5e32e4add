-- The lemmas of the theory, lowest first.
pub mod Runs
pub mod Filling
pub mod Decide
pub mod Listing
pub mod Example
