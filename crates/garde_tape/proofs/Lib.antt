pub mod Fields
pub mod Finding
pub mod Marks
pub mod Nesting
pub mod Reading
pub mod Sizes
mod Nodes
