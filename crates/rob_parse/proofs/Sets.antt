-- The model in its sets: what is taken in a set, joint parameters, the numbers of sets.
pub mod InSets
pub mod SetNumbers
pub mod RoomLemmas
pub mod JoinLemmas
