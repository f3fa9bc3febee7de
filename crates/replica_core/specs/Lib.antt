pub mod Frontier
pub mod Kept
pub mod Rows
