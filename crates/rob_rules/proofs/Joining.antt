-- Words, statements and lines one behind another; a text reads in one way.
pub mod OneText
pub mod WideLemmas
pub mod GrowingLemmas
pub mod WidenedLemmas
pub mod LinkLemmas
pub mod ShapeLemmas
pub mod JoinLemmas
pub mod PaddedLemmas
pub mod ExpandedLemmas
