pub mod Tables
pub mod Lowering
