-- The words of each part of a model are spelled as the grammar spells that part.
pub mod NumberText
pub mod ExpressionText
pub mod StatementText
pub mod LineText
pub mod LinesText
