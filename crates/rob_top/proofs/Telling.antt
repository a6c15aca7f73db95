-- What words tell: lists, limits, cuts, names.
pub mod CertificateNameLemmas
pub mod NamingLemmas
pub mod NumberingLemmas
pub mod ToldLemmas
pub mod LimitLemmas
pub mod CutTellingLemmas
