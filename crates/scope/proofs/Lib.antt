-- Lemmas of this crate.
pub mod Changes
