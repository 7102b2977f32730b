pub mod Common
pub mod Statuses
pub mod Endings
pub mod Named
pub mod Merged
pub mod Opened
