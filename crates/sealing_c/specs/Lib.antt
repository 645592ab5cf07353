pub mod Secretless
pub mod Loads
