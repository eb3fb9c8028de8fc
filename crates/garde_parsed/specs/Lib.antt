pub mod Addresses
pub mod InMemory
pub mod Urls
pub mod Parts
pub mod Moments
pub mod Layouts
pub mod Spelling
