pub mod Calls
pub mod Store
pub mod Stream
pub mod Files
