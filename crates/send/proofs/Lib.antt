pub mod Cases
pub mod Outcomes
pub mod Bursts
pub mod Stays
pub mod Rights
