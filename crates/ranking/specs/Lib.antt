-- Which entry calls which, how many calls stand one within another, and what ranking promises of it.
pub mod Calls
pub mod Counting
pub mod Levels
pub mod Steps
pub mod Ranks
