-- How many tokens canonical lines have, and how deep they are: as many, and as deep, as rob_index says.
pub mod DepthSteps
pub mod TokenPlaces
pub mod TokenCounts
pub mod CountedNumbers
pub mod CountedLines
pub mod LowWords
pub mod LowLines
pub mod ShallowTexts
