-- The theorem on the table.
pub mod Theorem
