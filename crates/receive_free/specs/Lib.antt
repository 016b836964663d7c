pub mod Acknowledge
