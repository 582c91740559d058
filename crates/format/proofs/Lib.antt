-- Lemmas of this crate.
pub mod BookLawful
