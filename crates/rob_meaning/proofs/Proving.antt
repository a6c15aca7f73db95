-- What a certificate shows; one status.
pub mod StatusLemmas
pub mod CoverLemmas
pub mod ItemLemmas
pub mod ProvesLemmas
