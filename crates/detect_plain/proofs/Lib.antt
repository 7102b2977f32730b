pub mod Common
pub mod PartRecords
pub mod Detected
pub mod Fitting
pub mod PartReports
