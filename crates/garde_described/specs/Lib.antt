pub mod Whole
pub mod Keywords
pub mod Faults
pub mod Links
