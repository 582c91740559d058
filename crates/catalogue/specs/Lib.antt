-- The meaning of catalogues: their questions and their laws.
pub mod Questions
pub mod Buffers
pub mod Lawful
pub mod Reading
pub mod LawfulProp
