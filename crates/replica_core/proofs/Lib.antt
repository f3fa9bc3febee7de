pub mod Bounds
pub mod Edit
pub mod Export
pub mod Frontier
pub mod Gathered
pub mod Joins
pub mod Merge
pub mod Steps
