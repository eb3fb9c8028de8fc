pub mod Codes
pub mod Faults
pub mod Turns
pub mod Repeated
