pub mod Answered
pub mod Labels
pub mod Laws
pub mod Refused
pub mod Shown
pub mod Texts
