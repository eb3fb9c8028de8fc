pub mod Row
pub mod Line
pub mod Import
pub mod Run
pub mod Memory
pub mod Again
