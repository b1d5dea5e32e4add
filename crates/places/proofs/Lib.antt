-- From the words to the table and to the depth, and each answer of `know` and `depth`.
pub mod Bridge
pub mod Solved
pub mod Bytes
pub mod Telling
pub mod Answering
pub mod Work
pub mod Ranking
pub mod Reading
