-- The lemmas on the words of nodes, and on call places.
pub mod Placed
pub mod Written
pub mod Stepping
pub mod Walking
pub mod Whole
pub mod Counting
pub mod Collecting
pub mod Calling
pub mod Surveying
pub mod Gathering
