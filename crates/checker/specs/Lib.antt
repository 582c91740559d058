-- What the programs print, and worked samples.
pub mod Linkbook
pub mod Samples
