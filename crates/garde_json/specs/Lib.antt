pub mod Tokens
pub mod Next
pub mod First
pub mod Form
pub mod Json
pub mod Refusals
