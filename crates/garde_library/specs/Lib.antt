pub mod Checked
pub mod Codes
pub mod Faults
pub mod Nodes
pub mod Places
pub mod Room
pub mod Value
