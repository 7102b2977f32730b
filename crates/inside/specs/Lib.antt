pub mod Handles
pub mod Lending
pub mod Naming
pub mod Sessions
pub mod Statuses
