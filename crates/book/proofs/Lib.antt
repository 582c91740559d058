-- Lemmas of this crate.
pub mod LinesTold
pub mod Runs
pub mod ObjectsTold
pub mod Nths
pub mod Named
