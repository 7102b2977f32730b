pub mod Reports
pub mod Located
pub mod Collected
pub mod ReportText
pub mod Keyed
pub mod ReportFaults
pub mod ReportBytes
pub mod Merged
