pub mod Cases
pub mod Parts
pub mod Ready
