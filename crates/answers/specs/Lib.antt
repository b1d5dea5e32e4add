-- What is answered.
pub mod Holding
pub mod Deciding
pub mod Matching
pub mod Looking
pub mod Replies
pub mod Sources
