pub mod Fetching
pub mod Telling
pub mod Ending
pub mod Meaning
pub mod Origins
pub mod Coming
pub mod Relations
pub mod ByHand
