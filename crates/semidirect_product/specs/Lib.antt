pub mod Maybe
pub mod MaybeLaws
pub mod Stack
pub mod StackLaws
pub mod Reset
pub mod ResetLaws
