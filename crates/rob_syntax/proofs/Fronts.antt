-- What stands at the front of some symbols, by the parts of the grammar.
pub mod PartLemmas
pub mod ChainLemmas
pub mod IndexLemmas
pub mod OptionLemmas
pub mod BoundsLemmas
pub mod RangeLemmas
pub mod TreeLemmas
pub mod FactorLemmas
pub mod TermLemmas
pub mod ExprLemmas
pub mod ListLemmas
pub mod LineLemmas
pub mod KindLemmas
pub mod StatementLemmas
