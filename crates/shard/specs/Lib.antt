pub mod Shards
pub mod Worked
pub mod Working
pub mod Going
