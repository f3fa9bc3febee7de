pub mod Clearing
pub mod Peers
pub mod Sides
