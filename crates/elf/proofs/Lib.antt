-- Lemmas of this crate.
pub mod Choices
pub mod Counting
