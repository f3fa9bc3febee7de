mod Checked
pub mod FlagTables
mod LadderTable
mod Rows
