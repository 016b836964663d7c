pub mod State
pub mod Update
pub mod Ring
pub mod Refusals
