-- Pushdown systems: what they are, what they can do, and the theorems about them.
pub mod System
pub mod Listed
pub mod Laws
