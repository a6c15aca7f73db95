pub mod Trees
pub mod Judging
pub mod Counts
pub mod Steps
pub mod Joining
