-- Lemmas of this crate.
pub mod Reports
pub mod Linked
