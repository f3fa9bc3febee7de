pub mod Places
pub mod Presence
pub mod Steps
