pub mod Written
pub mod Models
pub mod Modelled
pub mod Building
