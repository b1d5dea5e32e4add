-- What the calls promise.
pub mod Memory
pub mod Accepting
pub mod Says
pub mod Solving
pub mod Solutions
pub mod Settling
pub mod Example
