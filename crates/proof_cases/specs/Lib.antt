-- The table of the bench cases.
pub mod Cases
