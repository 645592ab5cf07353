pub mod Sponge
pub mod Padding
pub mod Absorbing
pub mod Output
