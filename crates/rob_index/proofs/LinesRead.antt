-- Lines of version 1, what plain statements keep that lines read as, and lines one behind another.
pub mod ListLemmas
pub mod ReadingLemmas
pub mod KeptLemmas
pub mod PlainFaults
