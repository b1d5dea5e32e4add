-- What the engine promises, and what its parts leave.
pub mod Bits
pub mod System
pub mod Node
pub mod Marks
pub mod Visits
pub mod Engine
pub mod Steps
