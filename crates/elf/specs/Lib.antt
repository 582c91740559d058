-- The meaning of shared objects: names, objects, offers and refusals.
pub mod Names
pub mod Meaning
pub mod Offers
pub mod Stored
pub mod Refusals
