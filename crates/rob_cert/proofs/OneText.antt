-- Each text is that of one certificate, or breaks one rule.
pub mod ApartLemmas
pub mod SpellingLaws
pub mod OneBreach
pub mod OneCertificate
pub mod Decisions
pub mod SomeEntries
pub mod SomeCovers
pub mod SomeItems
pub mod SomeFirstLines
pub mod SomeCertificate
