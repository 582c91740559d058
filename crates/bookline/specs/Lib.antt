-- What the code holds of a line, seen as the format's definitions see it.
pub mod Rows
