pub mod Accesses
pub mod Online
pub mod Steps
pub mod Lives
pub mod Following
