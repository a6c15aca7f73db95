pub mod Bytes
pub mod Pieces
pub mod Weights
pub mod Places
pub mod Offences
pub mod Found
pub mod Slices
pub mod Lines
