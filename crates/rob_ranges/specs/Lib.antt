pub mod DigitLists
pub mod Digits
pub mod Joining
pub mod Nests
pub mod Seeking
pub mod Shorts
pub mod Spans
pub mod Values
