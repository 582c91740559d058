-- Lemmas of this crate.
pub mod Targets
pub mod Walking
pub mod Joins
pub mod Starting
pub mod Told
pub mod Copies
pub mod Asked
pub mod Firsts
pub mod Rooms
pub mod Checking
pub mod Linking
pub mod Reports
pub mod Spares
