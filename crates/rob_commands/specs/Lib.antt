pub mod Codes
pub mod Answers
pub mod Replies
pub mod Stops
pub mod TreeReport
