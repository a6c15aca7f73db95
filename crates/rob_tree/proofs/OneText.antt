-- Each text is that of one tree, or breaks one rule.
pub mod NodeLaws
pub mod TreeLaws
pub mod SomeNode
pub mod SomeTree
