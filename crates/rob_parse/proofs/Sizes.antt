-- The sizes of a model and those that are counted line by line.
pub mod CountLemmas
pub mod ModelSizes
pub mod StatementSizes
pub mod LimitLemmas
