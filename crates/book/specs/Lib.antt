-- What a book's lists mean, and what the parts of its reader give.
pub mod Held
pub mod Sections
