-- Parentheses and tokens of what is expanded.
pub mod DepthLemmas
pub mod LineTokens
pub mod OpenLemmas
pub mod LineOpenLemmas
pub mod ExpandedDepths
