pub mod Answered
pub mod Clauses
pub mod Files
pub mod Inputs
pub mod Merges
pub mod Merging
pub mod Questions
