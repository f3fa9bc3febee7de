pub mod Position
pub mod Between
pub mod Order
pub mod Cells
pub mod Text
pub mod Around
pub mod TextLaws
pub mod Places
