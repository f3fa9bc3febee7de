pub mod Pair
pub mod PairLaws
pub mod Row
pub mod RowLaws
