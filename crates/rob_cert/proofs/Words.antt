-- Words, numbers, names, kinds of lines.
pub mod WordLemmas
pub mod NameListLemmas
pub mod NumberLemmas
pub mod KindLemmas
pub mod NameWords
