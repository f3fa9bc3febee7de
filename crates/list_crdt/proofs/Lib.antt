pub mod Next
pub mod Levels
pub mod Steps
pub mod Orders
pub mod Found
pub mod Neighbours
