pub mod Pages
pub mod Readable
pub mod Lines
pub mod Shown
