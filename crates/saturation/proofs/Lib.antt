-- Lemmas that several answers share.
pub mod Words
pub mod Nodes
pub mod Removing
pub mod Marking
pub mod Summary
pub mod Complete
pub mod Soundness
pub mod Closure
pub mod Visiting
pub mod Sites
pub mod Draining
pub mod Example
