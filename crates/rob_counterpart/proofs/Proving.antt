-- From an ending to a certificate that proves.
pub mod WholeCertificates
pub mod ScaledEndings
pub mod ReadingLemmas
pub mod EndingLemmas
pub mod EndingScales
pub mod TargetLemmas
pub mod CoverLemmas
pub mod ItemLemmas
pub mod KeptLemmas
pub mod KeptOrder
pub mod CertificateLemmas
pub mod CompletenessLemmas
