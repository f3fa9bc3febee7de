pub mod FaultText
pub mod Name
pub mod Table
pub mod TableLaws
pub mod TableForm
pub mod TableText
pub mod Verdict
