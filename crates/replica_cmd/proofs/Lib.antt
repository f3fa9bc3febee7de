pub mod Bounds
mod Checking
pub mod Endings
pub mod KeptLab
pub mod Lookups
pub mod Looping
pub mod Stepping
pub mod Words
