pub mod Clock
pub mod Stamp
pub mod Sets
