pub mod ByHead
pub mod Chunk
pub mod Fitting
pub mod Segments
pub mod Talk
