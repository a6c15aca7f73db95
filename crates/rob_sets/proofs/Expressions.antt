-- Tables of expressions, part by part.
pub mod DegreeLemmas
pub mod DifferenceLemmas
pub mod JointLemmas
pub mod LeafLemmas
pub mod PrefixLemmas
pub mod ProductSteps
pub mod RuleLemmas
pub mod RuleSteps
pub mod SumSteps
pub mod TabulatingLemmas
