-- The reader's steps, from a line's statement to the whole text.
pub mod StageLemmas
pub mod MoreLines
pub mod VersionLines
pub mod LineStatements
pub mod OneLine
pub mod TakenLemmas
pub mod WholeText
