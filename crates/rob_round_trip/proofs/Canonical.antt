-- The canonical text is read as its model; and so is the model that a text reads as.
pub mod CanonicalReading
pub mod RoundTrip
