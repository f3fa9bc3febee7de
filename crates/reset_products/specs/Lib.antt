pub mod Cut
pub mod CutLaws
pub mod Observed
pub mod ObservedLaws
pub mod Forgotten
pub mod Untouched
