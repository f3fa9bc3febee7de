pub mod Ops
pub mod Last
