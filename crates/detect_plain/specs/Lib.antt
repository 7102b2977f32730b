pub mod Detected
pub mod Taking
