pub mod Masks
pub mod Steps
pub mod Groups
pub mod Pages
pub mod Blocks
