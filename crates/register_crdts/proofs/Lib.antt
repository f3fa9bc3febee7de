pub mod Greatest
pub mod Unseen
