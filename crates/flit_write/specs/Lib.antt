pub mod Flits
