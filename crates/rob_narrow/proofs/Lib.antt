pub mod Numbers
pub mod PowerLemmas
