-- The writer; what is read has its shape, and fits.
pub mod WriterLemmas
pub mod ShapeLemmas
pub mod LineLeads
pub mod LeadLemmas
pub mod FitLemmas
pub mod ReadLemmas
