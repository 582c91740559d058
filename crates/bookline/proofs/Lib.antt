-- Lemmas of this crate.
pub mod Splits
pub mod Numbers
pub mod FitsBehind
pub mod RowsRead
