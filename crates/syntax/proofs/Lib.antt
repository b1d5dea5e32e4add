-- The lemmas on decimal text.
pub mod Splitting
pub mod Reading
pub mod Values
pub mod Writing
pub mod Once
