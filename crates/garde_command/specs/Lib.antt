pub mod Word
pub mod Asked
pub mod Spoken
