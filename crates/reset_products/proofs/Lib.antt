pub mod Cutting
pub mod Settling
pub mod Forgetting
pub mod Untouching
