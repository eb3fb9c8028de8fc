pub mod Empty
pub mod Listed
pub mod Taken
mod ValueItems
pub mod Whole
