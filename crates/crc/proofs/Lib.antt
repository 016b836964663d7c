-- The laws. A crate above cites Divides, Bytes, Sealing and Damage; the others serve them.
pub mod Xor
pub mod Places
pub mod Numbers
pub mod Table
pub mod Divides
pub mod Bytes
pub mod Sealing
pub mod Damage
