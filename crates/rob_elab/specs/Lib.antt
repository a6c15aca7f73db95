pub mod Appending
pub mod Elaborated
pub mod Forms
pub mod Written
