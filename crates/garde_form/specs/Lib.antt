pub mod Bare
pub mod Keys
pub mod Members
pub mod Parsed
pub mod Spelling
pub mod Texts
pub mod WebForm
