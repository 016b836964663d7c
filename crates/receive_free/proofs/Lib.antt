pub mod Borders
pub mod Steps
