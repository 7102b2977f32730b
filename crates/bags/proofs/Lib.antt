pub mod Common
pub mod Stack
pub mod BagPaths
pub mod Segments
pub mod Halving
pub mod Cuts
pub mod Counting
