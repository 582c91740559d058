-- The export book: its lines, and what the whole text means.
pub mod Lines
pub mod Book
pub mod Written
pub mod Format
