-- The syntax tree: what it means, and what its encoding promises.
pub mod Meaning
pub mod Sizes
pub mod Limits
pub mod Adds
pub mod Encoding
