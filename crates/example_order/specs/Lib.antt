pub mod CzechText
pub mod Language
