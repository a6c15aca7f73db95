pub mod WrittenSplits
pub mod FormedSplits
pub mod ReadableSplits
pub mod SpelledSplits
pub mod FlatWords
pub mod ShallowSplits
pub mod FewTokens
pub mod SplitReading
