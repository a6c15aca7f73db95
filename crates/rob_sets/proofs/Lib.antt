pub mod Cells
pub mod Products
pub mod Expressions
pub mod Judging
pub mod WholeRows
