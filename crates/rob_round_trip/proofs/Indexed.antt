-- A line of version 1, which has no indices, as rob_index has it: one statement at most; and a text of such lines.
pub mod PlainExpressions
pub mod PlainLines
pub mod OwnStatements
pub mod PlainNames
pub mod PlainFollows
pub mod PlainTexts
pub mod NumberedCounts
pub mod ReadLengths
