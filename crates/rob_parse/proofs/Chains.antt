-- What a text of either version reads as, as statements one behind another.
pub mod NameLists
pub mod FreeLines
pub mod TextChains
