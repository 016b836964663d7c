pub mod Cuts
pub mod Figures
