-- Lines of words are read, at the level of bytes, as they were written.
pub mod DigitLemmas
pub mod QuietWords
pub mod SinglePlaces
pub mod PagePieces
pub mod PageTokens
pub mod PageSymbols
