pub mod Answers
pub mod Nesting
pub mod Spelled
pub mod Writes
