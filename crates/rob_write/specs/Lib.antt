pub mod Pages
pub mod WrittenModel
pub mod ExpressionWords
pub mod StatementWords
pub mod Canonical
