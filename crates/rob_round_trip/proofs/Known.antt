-- Each name of a text stands for its own thing.
pub mod NamedThings
pub mod KnownNames
pub mod NumberedSets
