-- The meaning of sessions: their state, their calls and their reports.
pub mod State
pub mod Walks
pub mod Binding
pub mod Checks
pub mod Calls
pub mod Lines
pub mod View
pub mod Tabled
pub mod Texts
