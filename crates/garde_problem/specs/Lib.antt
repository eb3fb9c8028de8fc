pub mod Coded
pub mod CodedText
pub mod Escaped
pub mod Laws
pub mod Pointer
pub mod Problem
