-- How large a model is, and what is counted of statements.
pub mod SizeLemmas
pub mod CountLemmas
pub mod TotalLemmas
