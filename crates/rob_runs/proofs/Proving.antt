-- The certificate of a finished run.
pub mod FormOrder
pub mod RunCertificates
pub mod CoverLists
pub mod ShapeLemmas
pub mod StepLemmas
