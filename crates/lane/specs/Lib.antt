pub mod Given
pub mod Hands
pub mod Items
pub mod Joining
pub mod Lanes
pub mod Slots
pub mod Staging
