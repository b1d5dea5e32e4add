-- The lemmas on walking, refusals and answers.
pub mod Bounds
pub mod Knowing
pub mod Walks
pub mod Refusals
pub mod Parts
pub mod Telling
