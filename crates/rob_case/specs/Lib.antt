pub mod Answers
pub mod Texts
pub mod Numbers
pub mod Cases
