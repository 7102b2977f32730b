pub mod Common
pub mod Lines
pub mod Sinks
