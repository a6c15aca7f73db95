pub mod LimitLemmas
pub mod PlainLemmas
pub mod Fronts
pub mod Seeing
pub mod TreeLemmas
pub mod WordLemmas
pub mod VersionLemmas
pub mod SeenLemmas
