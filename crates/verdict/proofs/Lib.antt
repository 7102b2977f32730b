mod Common
mod Structure
mod Lists
mod Strands
mod Nested
mod Racy
mod Needless
mod Reordered
pub mod Reports
pub mod PartReports
