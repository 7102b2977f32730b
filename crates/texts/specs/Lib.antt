pub mod Sinks
pub mod Messages
pub mod Texts
