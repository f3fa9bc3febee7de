pub mod Honest
pub mod Lab
pub mod Line
pub mod Text
