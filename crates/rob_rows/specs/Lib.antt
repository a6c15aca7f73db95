pub mod PrimitiveParts
pub mod Factors
pub mod Quotients
pub mod LinearPrograms
