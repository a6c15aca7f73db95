-- Names of what is expanded; other names in their place.
pub mod NamingLemmas
pub mod RenamingLemmas
pub mod LineNames
