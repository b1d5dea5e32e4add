-- What the programs print: the definitions that the contracts cite.
pub mod Arguments
pub mod Complaints
pub mod Files
pub mod Queries
pub mod Summaries
pub mod Waits
