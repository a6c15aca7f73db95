pub mod View
pub mod Stops
pub mod Answering
pub mod SweepText
