pub mod Stock
pub mod Props
pub mod Reading
