pub mod Checked
pub mod Rules
pub mod Voice
