pub mod Cuts
pub mod Pieces
pub mod SplitModel
pub mod SplitNames
