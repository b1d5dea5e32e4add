-- Lemmas that several answers share.
pub mod Facts
pub mod Tallies
pub mod Entries
pub mod Counted
pub mod Settling
pub mod Settled
pub mod Steps
pub mod Passing
pub mod Climbing
pub mod Chains
pub mod Idling
