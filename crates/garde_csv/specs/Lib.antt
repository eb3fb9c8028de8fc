pub mod Places
pub mod Quotes
pub mod Steps
pub mod Lists
pub mod Texts
