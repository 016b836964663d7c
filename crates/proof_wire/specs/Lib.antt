pub mod Damage
pub mod System
pub mod Theorem
