pub mod Peers
pub mod State
