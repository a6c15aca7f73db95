-- The first phase with the auxiliary column kept out.
pub mod Beside
pub mod BesideTurns
pub mod BesidePaths
pub mod BesideLoops
pub mod BesideBack
pub mod BesideChoices
pub mod BesideColumns
pub mod WithoutColumn
