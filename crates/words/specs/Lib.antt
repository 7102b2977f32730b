pub mod Asked
pub mod Building
pub mod CommandLine
pub mod Matched
pub mod Meaning
pub mod Names
pub mod Refusals
