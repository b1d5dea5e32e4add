-- The lemmas on syntax trees.
pub mod Truth
pub mod Sizing
pub mod Rest
pub mod Fitting
pub mod Appending
pub mod Wider
