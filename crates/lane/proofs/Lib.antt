pub mod Marks
pub mod Shown
pub mod Taken
