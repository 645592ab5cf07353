pub mod Secrets
pub mod Seal
pub mod Sized
pub mod File
