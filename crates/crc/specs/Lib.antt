-- The specification of the check, in the order in which it is to be read.
pub mod Poly
pub mod Unit
pub mod Register
pub mod Seal
