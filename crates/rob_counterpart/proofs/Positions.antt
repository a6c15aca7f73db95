-- The counterpart by its places; programs with the same numbers.
pub mod ReformSums
pub mod ReformPlaces
pub mod SameSystems
pub mod SamePaths
