pub mod Begun
pub mod Feeding
pub mod Joining
pub mod Taking
