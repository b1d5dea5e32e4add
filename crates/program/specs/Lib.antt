-- Boolean programs: what they are, what they can do, how they are written as bytes, and what the
-- functions of this crate promise of all that.
pub mod Program
pub mod Runs
pub mod Rows
pub mod Kinds
pub mod Table
pub mod Values
pub mod Reading
pub mod Walking
pub mod Walks
pub mod Systems
pub mod Numbers
pub mod WellFormed
pub mod Laws
