-- The product of two tables, entry by entry.
pub mod OwnerLemmas
pub mod ProductLemmas
pub mod ProductSums
pub mod TimesLemmas
