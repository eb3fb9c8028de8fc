pub mod List
pub mod Told
