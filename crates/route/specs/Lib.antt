pub mod Senders
pub mod Sending
pub mod Progresses
pub mod Routers
pub mod Routed
pub mod Runs
pub mod RouterRuns
pub mod Steps
