pub mod Text
pub mod Latest
pub mod LatestLaws
pub mod Several
pub mod SeveralLaws
