-- A turn of each phase is one of the path; what the turns of the phases share.
pub mod StartLemmas
pub mod WrittenStarts
pub mod SecondPhase
pub mod FirstPhase
pub mod FirstTurns
pub mod ExplicitTurns
pub mod Prepared
pub mod ExplicitStart
pub mod PathsFrom
pub mod SpareColumns
pub mod NegatedRows
pub mod Ranks
pub mod BesideRows
