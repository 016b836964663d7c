pub mod Tests
pub mod Facts
pub mod Walks
pub mod Parts
pub mod Places
pub mod Holds
pub mod Verdicts
