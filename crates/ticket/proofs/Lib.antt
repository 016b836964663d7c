pub mod Laws
pub mod Session
