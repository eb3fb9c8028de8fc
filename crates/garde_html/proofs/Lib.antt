pub mod Entities
pub mod Held
pub mod Pages
pub mod Parts
pub mod Places
pub mod Told
