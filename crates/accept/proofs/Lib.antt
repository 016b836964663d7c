pub mod Unchanged
pub mod Stored
pub mod Sound
