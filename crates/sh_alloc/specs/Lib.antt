pub mod Spares
pub mod Walks
pub mod Chunks
