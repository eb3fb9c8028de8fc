pub mod Backwards
pub mod Escapes
pub mod Messages
pub mod Pointers
pub mod Shown
pub mod Tokens
