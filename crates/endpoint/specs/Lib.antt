pub mod Session
pub mod Effects
pub mod Tables
pub mod Steps
