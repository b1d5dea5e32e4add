pub mod Looking
pub mod Locating
pub mod Replying
