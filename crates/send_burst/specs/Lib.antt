pub mod Burst
