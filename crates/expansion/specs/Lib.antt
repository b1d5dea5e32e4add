-- A program as words.
pub mod Words
pub mod Nodes
pub mod Procs
pub mod Programs
pub mod Sites
pub mod Listing
