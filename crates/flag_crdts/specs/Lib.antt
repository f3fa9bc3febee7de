pub mod Flags
pub mod Ladder
pub mod LadderLaws
pub mod Choice
pub mod ChoiceLaws
