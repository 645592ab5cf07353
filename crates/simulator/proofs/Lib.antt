pub mod OneCall
pub mod Happens
pub mod Reaching
pub mod Mute
pub mod Made
