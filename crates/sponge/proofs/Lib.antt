mod Blocks
mod Bits
pub mod Lanes
mod Waiting
