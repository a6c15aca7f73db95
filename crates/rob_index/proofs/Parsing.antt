-- A reader of lines as a function; some symbols are one line at most.
pub mod Parser
pub mod PartsRead
pub mod ExprParser
pub mod LineParser
pub mod OneStatement
pub mod LineSizes
pub mod Settled
pub mod Versions
