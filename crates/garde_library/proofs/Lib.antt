mod Values
pub mod Adding
pub mod Given
pub mod Growing
pub mod Placed
