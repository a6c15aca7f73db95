-- Which files the words name, in which order they are fetched, and what came of them.
pub mod OwnLemmas
pub mod FilesLemmas
pub mod FirstWordLemmas
pub mod FetchesLemmas
