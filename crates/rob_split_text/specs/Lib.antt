pub mod SplitTexts
