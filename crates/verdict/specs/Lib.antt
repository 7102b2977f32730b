pub mod Racy
pub mod Reported
pub mod Repeats
pub mod Strands
