pub mod Family
pub mod Replica
